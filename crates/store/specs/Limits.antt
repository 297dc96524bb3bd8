-- The limits of a store.
use Rattle.std.specs.Prelude.{ℕ}

-- sites are numbered from 1
abbrev pub max_sites : ℕ
max_sites = 8

-- the bytes of a slot
abbrev pub max_slot : ℕ
max_slot = 1024

-- the rewrites left
abbrev pub max_left : ℕ
max_left = 4294967295
