-- Versions and their order.
use Rattle.std.specs.Prelude.{◌≡◌, ℕ, ◌<◌, ◌≤◌, List, length, Some, None, Option, ◌≢◌, codes, slice_index_or}
use Rattle.std.specs.declared.cmp.Ordering.{Ordering}
use Rattle.std.specs.declared.cmp.Ordering.TheVariants.{Less, Equal as Same, Greater}
use Rattle.version.specs.declared.order.Order.{Order}
use Rattle.version.specs.declared.order.Order.TheVariants.{Equal, Below, Above, Apart}

-- what a version says of one site: how many of its operations it counts, and the digest of the view history up to the last of them
pub record Slot : Type 0 where
  pub timestamp : ℕ
  pub digest : Option (List ℕ)

abbrev pub slot_with : ℕ → Option (List ℕ) → Slot
slot_with t d = record { timestamp = t; digest = d }

-- of a site with no operation yet
abbrev pub unseen : Slot
unseen = slot_with 0 None

-- a version has a slot for each site of its group: that of site i stands at i - 1
abbrev pub slot_at : List Slot → ℕ → Slot
slot_at v k = slice_index_or v k unseen

-- the timestamp is not greater, and where the timestamps are equal the digests are
pub record SlotAtOrBelow (a b : Slot) : Type 0 where
  pub stamp : a.timestamp ≤ b.timestamp
  pub told : a.timestamp ≡ b.timestamp → a.digest ≡ b.digest

-- at or below: versions of one group size, site by site
pub record AtOrBelow (u v : List Slot) : Type 0 where
  pub sizes : length u ≡ length v
  pub sites : (k : ℕ) → k < length u → SlotAtOrBelow (slot_at u k) (slot_at v k)

-- how a stands to b in an order, each answer exactly where it is due
abbrev pub Stands : {A : Type 0} → (A → A → Type 0) → A → A → Order → Type 0
Stands R a b Equal = a ≡ b
Stands R a b Below = R a b × (a ≢ b)
Stands R a b Above = R b a × (a ≢ b)
Stands R a b Apart = (R a b → ⊥) × (R b a → ⊥)

-- the answer that a comparison stands for, of values of which neither may be at or below the other
abbrev pub order_of : Option Ordering → Order
order_of (Some Same) = Equal
order_of (Some Less) = Below
order_of (Some Greater) = Above
order_of None = Apart

-- the answer as text
abbrev pub word_of : Order → List ℕ
word_of Equal = codes "equal"
word_of Below = codes "below"
word_of Above = codes "above"
word_of Apart = codes "apart"

-- a relation that is a partial order
pub record PartialOrder {A : Type 0} (R : A → A → Type 0) : Type 0 where
  pub reflexive : (a : A) → R a a
  pub antisymmetric : (a b : A) → R a b → R b a → a ≡ b
  pub transitive : (a b c : A) → R a b → R b c → R a c
