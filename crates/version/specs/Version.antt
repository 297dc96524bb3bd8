-- The version that a value of the code stands for.
use Rattle.std.specs.Prelude.{◌≡◌, ℕ, List, map, Some, None, Option, slice_index_or}
use Rattle.std.specs.List.{range_with_len}
use Rattle.version.specs.declared.seen.Seen.{Seen}
use Rattle.version.specs.declared.version.Version.{Version}
use Rattle.version.specs.Order.{Slot, slot_with, unseen}

-- what is said of a site by what has been seen of it
abbrev pub slot_from : Option Seen → Slot
slot_from None = unseen
slot_from (Some seen) = slot_with seen.timestamp (Some seen.digest)

-- what it says of the site k + 1
abbrev pub slot_of : Version → ℕ → Slot
slot_of v k = slot_from (slice_index_or v.seen k None)

unfoldable pub slots : Version → List Slot
slots v = map (slot_of v) (range_with_len 0 v.size)

-- each version has one form: values that stand for the same version agree at every place, also past the group's size
abbrev pub OneForm : Type 0
OneForm = (u v : Version) → slots u ≡ slots v → (k : ℕ) → slot_of u k ≡ slot_of v k
