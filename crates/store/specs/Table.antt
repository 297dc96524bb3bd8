-- What a table means.
use Rattle.std.specs.Prelude.{ℕ, zero, suc, List, [], map, vec_items, slice_index_or}
use Rattle.store.specs.declared.slot.Slot.{Slot}
use Rattle.store.specs.declared.table.Table.{Table}
use Rattle.store.specs.declared.table.pair.Pair.{Pair}
use Rattle.store.specs.Limits.{max_left}
use Rattle.store.specs.Meaning.{StoreMeaning}
use Rattle.store.specs.Pair.{bytes_in}

-- what a slot of the site with this number holds; the slots of site 1 stand first
abbrev pub slot_in : List Pair → Slot → ℕ → List ℕ
slot_in ps s zero = []
slot_in ps s (suc k) = slice_index_or (map (bytes_in s) ps) k []

-- a table never wears out
abbrev pub table_meaning : Table → StoreMeaning
table_meaning t = record { slot = slot_in (vec_items t.sites); left = max_left }
