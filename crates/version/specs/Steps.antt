-- What the inner calls answer that write a version slot by slot.
use Rattle.std.specs.Prelude.{ℕ, ◌+◌, ◌<◌, List, length, Some, None, Option}
use Rattle.octets.specs.Puts.{Puts}
use Rattle.version.specs.declared.seen.Seen.{Seen}
use Rattle.version.specs.Layout.{slot_field}
use Rattle.version.specs.Version.{slot_from}

-- one slot; where it does not fit, nothing is said of the bytes
abbrev pub PutsSlot : Option Seen → ℕ → List ℕ → List ℕ → Option ℕ → Type 0
PutsSlot slot start was is (Some end) = Puts (slot_field.put (slot_from slot)) start was is end
PutsSlot slot start was is None = length was < start + 36
