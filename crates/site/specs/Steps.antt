-- What the inner calls answer.
use Rattle.std.specs.Prelude.{◌≡◌, ℕ, ◌+◌, ◌<◌, ◌≤◌, Ok, Err, Result}
use Rattle.message.specs.declared.code.Code.{Code}
use Rattle.signature.specs.Meaning.{SchemeMeaning}
use Rattle.rules.specs.declared.phase.Phase.TheVariants.{Idle}
use Rattle.rules.specs.declared.refusal.Refusal.{Refusal}
use Rattle.rules.specs.declared.refusal.Refusal.TheVariants.{OutOfRange, OutOfService, OutOfTurn, ValueTooLong, TimestampLimit, TooFewSignatures, BadField, BufferTooShort}
use Rattle.rules.specs.Begin.{Ended, Waits}
use Rattle.rules.specs.Finish.{Operation, Awaits, Awaited}
use Rattle.rules.specs.Group.{SiteState, own, max_timestamp}

-- whether a site can begin an operation
abbrev pub Idles : SiteState → Result (Unit {0}) Refusal → Type 0
Idles s (Ok _) = s.phase ≡ Idle
Idles s (Err OutOfRange) = ⊥
Idles s (Err OutOfService) = Ended s.phase
Idles s (Err OutOfTurn) = Waits s.phase
Idles s (Err ValueTooLong) = ⊥
Idles s (Err TimestampLimit) = ⊥
Idles s (Err TooFewSignatures) = ⊥
Idles s (Err (BadField offset)) = ⊥
Idles s (Err BufferTooShort) = ⊥

-- whether a site waits for an operation, and with which code and register
abbrev pub Turns : SiteState → Operation → Result (Code × ℕ) Refusal → Type 0
Turns s t (Ok p) = Awaits s t p.0 p.1
Turns s t (Err OutOfRange) = ⊥
Turns s t (Err OutOfService) = Ended s.phase
Turns s t (Err OutOfTurn) = (Ended s.phase → ⊥) × (Awaited s t → ⊥)
Turns s t (Err ValueTooLong) = ⊥
Turns s t (Err TimestampLimit) = ⊥
Turns s t (Err TooFewSignatures) = ⊥
Turns s t (Err (BadField offset)) = ⊥
Turns s t (Err BufferTooShort) = ⊥

-- the timestamp of a site's next operation, whose submit has so many bytes, with room for so many
abbrev pub Nexts : SchemeMeaning → SiteState → ℕ → ℕ → Result ℕ Refusal → Type 0
Nexts m s size room (Ok t) = (own s < max_timestamp) × (t ≡ own s + 1) × (4 ≤ m.left s.number) × (size ≤ room)
Nexts m s size room (Err OutOfRange) = ⊥
Nexts m s size room (Err OutOfService) = ⊥
Nexts m s size room (Err OutOfTurn) = ⊥
Nexts m s size room (Err ValueTooLong) = ⊥
Nexts m s size room (Err TimestampLimit) = max_timestamp ≤ own s
Nexts m s size room (Err TooFewSignatures) = (own s < max_timestamp) × (m.left s.number < 4)
Nexts m s size room (Err (BadField offset)) = ⊥
Nexts m s size room (Err BufferTooShort) = (own s < max_timestamp) × (4 ≤ m.left s.number) × (room < size)
