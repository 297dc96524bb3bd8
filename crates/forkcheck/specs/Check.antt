-- What comparing two versions in bytes answers, each with its group's size.
use Rattle.std.specs.Prelude.{◌≡◌, ℕ, ◌⊎◌, List, Ok, Err, Result, ◌≢◌}
use Rattle.octets.specs.Field.{read}
use Rattle.version.specs.declared.order.Order.{Order}
use Rattle.version.specs.declared.refusal.Refusal.{Refusal}
use Rattle.version.specs.declared.refusal.Refusal.TheVariants.{OutOfRange, BadField}
use Rattle.version.specs.Layout.{version_field}
use Rattle.version.specs.Order.{Slot, AtOrBelow, Stands}
use Rattle.version.specs.Shape.{Size}

-- the bytes are the version v of a group of n sites
abbrev pub Spells : ℕ → List ℕ → List Slot → Type 0
Spells n bs v = Size n × (read (version_field n) bs ≡ Ok v)

-- they are none, for this reason
abbrev pub Fails : ℕ → List ℕ → Refusal → Type 0
Fails n bs e = ((Size n → ⊥) × (e ≡ OutOfRange)) ⊎ (Size n × ((offset : ℕ) × (read (version_field n) bs ≡ Err offset) × (e ≡ BadField offset)))

-- the first refusal: by the left bytes, by the right bytes, by two sizes
abbrev pub Checks : ℕ → List ℕ → ℕ → List ℕ → Result Order Refusal → Type 0
Checks n a m b (Ok o) = (u : List Slot) × (v : List Slot) × Spells n a u × Spells m b v × (n ≡ m) × Stands AtOrBelow u v o
Checks n a m b (Err e) =
    Fails n a e
    ⊎ (((u : List Slot) × Spells n a u × Fails m b e)
    ⊎ ((u : List Slot) × (v : List Slot) × Spells n a u × Spells m b v × (n ≢ m) × (e ≡ OutOfRange)))
