-- What each call answers and changes, by the rules.
use Rattle.std.specs.Prelude.{◌≡◌, ℕ, List, Ok, Err, Result}
use Rattle.message.specs.Submit.{Submission}
use Rattle.signature.specs.Meaning.{SchemeMeaning}
use Rattle.version.specs.Shape.{Size}
use Rattle.rules.specs.declared.refusal.Refusal.{Refusal}
use Rattle.rules.specs.declared.refusal.Refusal.TheVariants.{OutOfRange}
use Rattle.rules.specs.Begin.{Request, submit_size, Begins}
use Rattle.rules.specs.Finish.{Abandons, Completion, commit_size, finished, refused, stopped, Finishes}
use Rattle.rules.specs.Group.{Setup, SiteState, Member, new_site}
use Rattle.site.specs.declared.abandon.Kept.{Kept}
use Rattle.site.specs.declared.begin.Begun.{Begun}
use Rattle.site.specs.declared.finish.Finished.{Finished}
use Rattle.site.specs.declared.finish.Unfinished.{Unfinished}
use Rattle.site.specs.declared.finish.Unfinished.TheVariants.{Refused, Stopped}
use Rattle.site.specs.declared.state.Site.{Site}
use Rattle.site.specs.declared.ticket.Ticket.{Ticket}
use Rattle.site.specs.State.{state, operation_named}

-- a new site i of a group of n sites
abbrev pub News : ℕ → ℕ → Result Site Refusal → Type 0
News n i (Ok s) = Size n × Member n i × (state s ≡ new_site n i)
News n i (Err e) = (Size n → Member n i → ⊥) × (e ≡ OutOfRange)

-- an operation that was abandoned, or the ticket as it was handed in
abbrev pub AbandonsWith : SiteState → SiteState → Ticket → Result (Unit {0}) Kept → Type 0
AbandonsWith s s' t (Ok done) = Abandons s s' (operation_named t) (Ok done)
AbandonsWith s s' t (Err k) = Abandons s s' (operation_named t) (Err k.refusal) × (k.ticket ≡ t)

-- An operation that was begun by the request q: its ticket names it, and the length is that of its submit.
abbrev pub BeginsWith : Setup → SchemeMeaning → SchemeMeaning → SiteState → SiteState → Request → List ℕ → List ℕ → Result Begun Refusal → Type 0
BeginsWith p m m' s s' q was is (Ok b) =
    (a : Submission) × Begins p m m' s s' q was is (Ok a) × (operation_named b.ticket ≡ record { site = a.site; timestamp = a.timestamp }) × (b.length ≡ submit_size p q)
BeginsWith p m m' s s' q was is (Err e) = Begins p m m' s s' q was is (Err e)

-- An operation that was finished: the length is that of its commit, and the place that of the value; or the ticket as it was handed in; or a
-- stop.
abbrev pub FinishesWith :
    Setup → SchemeMeaning → SchemeMeaning → SiteState → SiteState → Ticket → List ℕ → List ℕ → List ℕ → Result Finished Unfinished → Type 0
FinishesWith p m m' s s' t bs was is (Ok f) =
    (d : Completion) × Finishes p m m' s s' (operation_named t) bs was is (finished d) × (f.value ≡ d.place) × (f.length ≡ commit_size p)
FinishesWith p m m' s s' t bs was is (Err (Refused k)) = Finishes p m m' s s' (operation_named t) bs was is (refused k.refusal) × (k.ticket ≡ t)
FinishesWith p m m' s s' t bs was is (Err (Stopped stop)) = Finishes p m m' s s' (operation_named t) bs was is (stopped stop)
