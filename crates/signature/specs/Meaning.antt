-- What a signature scheme means.
use Rattle.std.specs.Prelude.{◌≡◌, ℕ, ◌≤◌, Bool, List, length}
use Rattle.signature.specs.Limits.{max_sites, max_text}

-- which triples of site, text and signature are valid, and how many signatures each site has left
pub record SchemeMeaning : Type 0 where
  pub valid : ℕ → List ℕ → List ℕ → Bool
  pub left : ℕ → ℕ

-- sites are numbered from 1
abbrev pub Site : ℕ → Type 0
Site i = (1 ≤ i) × (i ≤ max_sites)

-- a triple within the limits; only such a triple can be valid
pub record Fits (len site : ℕ) (text signature : List ℕ) : Type 0 where
  pub ranged : Site site
  pub short : length text ≤ max_text
  pub sized : length signature ≡ len
