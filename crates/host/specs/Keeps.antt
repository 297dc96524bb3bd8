-- What is left of a store's answers where a site of the group writes a slot that is not too long.
use Rattle.std.specs.Prelude.{◌≡◌, ℕ, ◌<◌, List, Ok, Err, Result}
use Rattle.store.specs.declared.fault.Fault.{Fault}
use Rattle.store.specs.declared.fault.Fault.TheVariants.{NoRewriteLeft}
use Rattle.store.specs.declared.slot.Slot.{Slot}
use Rattle.store.specs.Calls.{Replaced}
use Rattle.store.specs.Meaning.{StoreMeaning}

-- the slot s of the site i holds bs, or no rewrite is left
abbrev pub Keeps : StoreMeaning → Slot → ℕ → List ℕ → StoreMeaning → Result (Unit {0}) Fault → Type 0
Keeps m s i bs m' (Ok _) = (0 < m.left) × Replaced m s i bs m'
Keeps m s i bs m' (Err e) = (m.left ≡ 0) × (e ≡ NoRewriteLeft) × (m' ≡ m)
