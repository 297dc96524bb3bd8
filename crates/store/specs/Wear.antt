-- An allowance of rewrites over a store, whatever that store means.
use Rattle.std.specs.Prelude.{◌≡◌, ℕ, ◌+◌, min, List, Ok, Err, Result}
use Rattle.store.specs.declared.fault.Fault.{Fault}
use Rattle.store.specs.declared.slot.Slot.{Slot}
use Rattle.store.specs.declared.wear.Wear.{Wear}
use Rattle.store.specs.Meaning.{StoreMeaning}
use Rattle.store.specs.Calls.{Replaced}

module _ {T : Type 0} (means : T → StoreMeaning) where
  -- the slots of the store below, and the smaller of the two numbers
  abbrev pub worn : Wear T → StoreMeaning
  worn w = record { slot = (means w.below).slot; left = min w.allowance (means w.below).left }

  -- an accepted write goes through to the store below and lowers the allowance by 1; a refused one changes neither
  abbrev pub Wears : Wear T → Slot → ℕ → List ℕ → Wear T → Result (Unit {0}) Fault → Type 0
  Wears w s i bs w' (Ok _) = Replaced (means w.below) s i bs (means w'.below) × (w.allowance ≡ w'.allowance + 1)
  Wears w s i bs w' (Err _) = (means w'.below ≡ means w.below) × (w'.allowance ≡ w.allowance)
