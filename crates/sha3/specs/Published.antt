-- What holds of the definitions themselves: that the padding fills the last block, and that they give the digests of the
-- examples that NIST publishes with FIPS 202.
use Rattle.std.specs.Prelude.{◌≡◌, ℕ, zero, suc, ◌+◌, ◌/◌, ◌%◌, List, [], ◌∷◌, ◌++◌, length, replicate, codes}
use Rattle.sha3.specs.Sha3.{padding, rate, sha3_256}

-- the last n bytes of a number, the highest first
abbrev pub shown : ℕ → ℕ → List ℕ
shown zero v = []
shown (suc n) v = shown n (v / 256) ++ (v % 256) ∷ []

pub record Published : Type 0 where
  pub fills : (n : ℕ) → (n + length (padding n)) % rate ≡ 0
  pub no_bytes : sha3_256 [] ≡ shown 32 0xa7ffc6f8bf1ed76651c14756a061d662f580ff4de43b49fa82d80a4b80f8434a
  pub one_block : sha3_256 (codes "abc") ≡ shown 32 0x3a985da74fe225b2045c172d6bd390bd855f086e3e9d525b46bfe24511431532
  pub two_blocks : sha3_256 (replicate 200 0xa3) ≡ shown 32 0x79f38adec5c20307a98ef76e8324afbfd46cfd81b22e3973c65fa1bd9de31787
