-- Worked examples of the order, in a group of two sites.
use Rattle.std.specs.Prelude.{ℕ, List, [], ◌∷◌, Some, ◌≢◌}
use Rattle.version.specs.declared.order.Order.TheVariants.{Equal, Below, Apart}
use Rattle.version.specs.Order.{Slot, slot_with, unseen, AtOrBelow, Stands}

-- a timestamp with its digest
abbrev pub seen : ℕ → List ℕ → Slot
seen t d = slot_with t (Some d)

abbrev pub pair : Slot → Slot → List Slot
pair a b = a ∷ b ∷ []

-- for any digests d, e and f
pub record Examples : Type 0 where
  -- (1,0) is below (1,1) with equal first digests, and apart from it with unequal ones
  pub grown : (d f : List ℕ) → Stands AtOrBelow (pair (seen 1 d) unseen) (pair (seen 1 d) (seen 1 f)) Below
  pub forked : (d e f : List ℕ) → (d ≢ e) → Stands AtOrBelow (pair (seen 1 d) unseen) (pair (seen 1 e) (seen 1 f)) Apart
  -- (2,0) and (1,1) are apart
  pub crossed : (d e f : List ℕ) → Stands AtOrBelow (pair (seen 2 d) unseen) (pair (seen 1 e) (seen 1 f)) Apart
  -- the zero version is equal to itself and below (1,0)
  pub same : Stands AtOrBelow (pair unseen unseen) (pair unseen unseen) Equal
  pub first : (d : List ℕ) → Stands AtOrBelow (pair unseen unseen) (pair (seen 1 d) unseen) Below
