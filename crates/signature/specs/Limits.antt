-- The limits of every scheme, as src/limits.rt has them.
use Rattle.std.specs.Prelude.{ℕ}

abbrev pub max_sites : ℕ
max_sites = 8

abbrev pub max_text : ℕ
max_text = 320

abbrev pub max_signature : ℕ
max_signature = 64
