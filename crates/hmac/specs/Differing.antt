-- How bytes differ.
use Rattle.std.specs.Prelude.{ℕ, List, bit_or, bit_xor}
use Rattle.std.specs.List.{fold, zip}

-- the bits in which the bytes of two lists differ, those of all places together
abbrev pub differing : List ℕ → List ℕ → ℕ
differing xs ys = fold (λ bits p. bit_or bits (bit_xor p.0 p.1)) 0 (zip xs ys)
