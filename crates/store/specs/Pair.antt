-- The slots of one site.
use Rattle.std.specs.Prelude.{◌≡◌, ℕ, List, [], ◌≢◌}
use Rattle.store.specs.declared.slot.Slot.{Slot}
use Rattle.store.specs.declared.slot.Slot.TheVariants.{Value, Version}
use Rattle.store.specs.declared.table.pair.Pair.{Pair}

-- what a slot holds
abbrev pub bytes_in : Slot → Pair → List ℕ
bytes_in Value p = p.value.bytes.items
bytes_in Version p = p.version.bytes.items

-- no slot holds anything
abbrev pub Blank : Pair → Type 0
Blank p = (s : Slot) → bytes_in s p ≡ []

-- a slot of p holds other bytes in p', and the other slot holds what it held
pub record Put (p : Pair) (s : Slot) (bs : List ℕ) (p' : Pair) : Type 0 where
  pub here : bytes_in s p' ≡ bs
  pub other : (r : Slot) → (r ≢ s) → bytes_in r p' ≡ bytes_in r p
