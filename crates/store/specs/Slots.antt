-- The slots of a table.
use Rattle.std.specs.Prelude.{ℕ, zero, suc, ◌≤◌, List, [], ◌∷◌, length, vec_items}
use Rattle.std.proofs.Common.{arith}
use Rattle.octets.specs.Numbers.{Bytes}
use Rattle.store.specs.declared.slot.Slot.{Slot}
use Rattle.store.specs.declared.slot.Slot.TheVariants.{Value, Version}
use Rattle.store.specs.declared.table.Table.{Table}
use Rattle.store.specs.declared.table.pair.Pair.{Pair}
use Rattle.store.specs.Limits.{max_slot}
use Rattle.store.specs.Meaning.{Sound}
use Rattle.store.specs.Pair.{bytes_in}
use Rattle.store.specs.Table.{slot_in, table_meaning}

slot_short : (p : Pair) (s : Slot) → length (bytes_in s p) ≤ max_slot
slot_short p Value = p.value.short
slot_short p Version = p.version.short

slot_bytes : (p : Pair) (s : Slot) → Bytes (bytes_in s p)
slot_bytes p Value = p.value.bounded
slot_bytes p Version = p.version.bounded

short : (ps : List Pair) (s : Slot) (i : ℕ) → length (slot_in ps s i) ≤ max_slot
short ps s zero = omega arith
short [] s (suc k) = omega arith
short (p ∷ ps) s (suc zero) = slot_short p s
short (p ∷ ps) s (suc (suc k)) = short ps s (suc k)

bytes : (ps : List Pair) (s : Slot) (i : ℕ) → Bytes (slot_in ps s i)
bytes ps s zero = λ k. omega arith
bytes [] s (suc k) = λ k. omega arith
bytes (p ∷ ps) s (suc zero) = slot_bytes p s
bytes (p ∷ ps) s (suc (suc k)) = bytes ps s (suc k)

pub table_sound : (t : Table) → Sound (table_meaning t)
table_sound t = record { short = short (vec_items t.sites); bytes = bytes (vec_items t.sites); few = omega arith }
