-- The state that a site of the code stands for, and the operation that a ticket names.
use Rattle.std.specs.Prelude.{ℕ, List}
use Rattle.version.specs.Version.{slots}
use Rattle.rules.specs.Finish.{Operation}
use Rattle.rules.specs.Group.{Setup, SiteState}
use Rattle.site.specs.declared.state.Site.{Site}
use Rattle.site.specs.declared.ticket.Ticket.{Ticket}

abbrev pub state : Site → SiteState
state s = record { number = s.number; version = slots s.version; last = s.last; phase = s.phase }

-- what its group keeps: n sites, signatures of g bytes, and a digest
abbrev pub setup : ℕ → ℕ → (List ℕ → List ℕ) → Setup
setup n g digest = record { size = n; signature = g; digest = digest }

abbrev pub operation_named : Ticket → Operation
operation_named t = record { site = t.site; timestamp = t.timestamp }
