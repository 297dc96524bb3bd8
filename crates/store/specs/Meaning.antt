-- What a register store means.
use Rattle.std.specs.Prelude.{◌≡◌, ℕ, ◌≤◌, List, [], length}
use Rattle.octets.specs.Numbers.{Bytes}
use Rattle.store.specs.declared.slot.Slot.{Slot}
use Rattle.store.specs.Limits.{max_slot, max_left}

-- the bytes of each slot of each site, and how many rewrites are left
pub record StoreMeaning : Type 0 where
  pub slot : Slot → ℕ → List ℕ
  pub left : ℕ

-- what the meaning of every store keeps
pub record Sound (m : StoreMeaning) : Type 0 where
  pub short : (s : Slot) (i : ℕ) → length (m.slot s i) ≤ max_slot
  pub bytes : (s : Slot) (i : ℕ) → Bytes (m.slot s i)
  pub few : m.left ≤ max_left

-- nothing has been written yet
abbrev pub Empty : StoreMeaning → Type 0
Empty m = (s : Slot) (i : ℕ) → m.slot s i ≡ []
