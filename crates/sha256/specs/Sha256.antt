-- FIPS 180-4, SHA-256 of a message of whole bytes. A byte is a number below 256.
use Rattle.std.specs.Prelude.{ℕ, ◌-◌, ◌*◌, ◌/◌, ◌%◌, ◌^◌, List, [], ◌∷◌, ◌++◌, replicate}
use Rattle.std.specs.List.{flat_map}
use Rattle.digest.specs.Blocks.{hashed}
use Rattle.sha256.specs.Compression.{compressed}
use Rattle.sha256.specs.declared.compression.State.{State}

-- 5.3.3
abbrev pub Initial : State
Initial =
    record {
      a = 0x6a09e667;
      b = 0xbb67ae85;
      c = 0x3c6ef372;
      d = 0xa54ff53a;
      e = 0x510e527f;
      f = 0x9b05688c;
      g = 0x1f83d9ab;
      h = 0x5be0cd19;
    }

-- 3.1: the bytes of a word, and of a number of 64 bits, the highest first
abbrev pub bytes32 : ℕ → List ℕ
bytes32 x = (x / 2 ^ 24 % 256) ∷ (x / 2 ^ 16 % 256) ∷ (x / 2 ^ 8 % 256) ∷ (x % 256) ∷ []

abbrev pub bytes64 : ℕ → List ℕ
bytes64 x =
    (x / 2 ^ 56 % 256) ∷ (x / 2 ^ 48 % 256) ∷ (x / 2 ^ 40 % 256) ∷ (x / 2 ^ 32 % 256) ∷
    (x / 2 ^ 24 % 256) ∷ (x / 2 ^ 16 % 256) ∷ (x / 2 ^ 8 % 256) ∷ (x % 256) ∷ []

-- 5.1.1: what follows a message of n bytes: a bit 1, as few bits 0 as fill a block up to its last 64 bits, and the message's length
-- in bits. The standard has n < 2 ^ 61. A longer message has its length modulo 2 ^ 64.
unfoldable pub padding : ℕ → List ℕ
padding n = 0x80 ∷ (replicate ((119 - n % 64) % 64) 0 ++ bytes64 ((n * 8) % 2 ^ 64))

-- 6.2.2: the message digest, the bytes of the last hash value
unfoldable pub output : State → List ℕ
output s = flat_map bytes32 (s.a ∷ s.b ∷ s.c ∷ s.d ∷ s.e ∷ s.f ∷ s.g ∷ s.h ∷ [])

unfoldable pub sha256 : List ℕ → List ℕ
sha256 bs = output (hashed compressed 64 padding Initial bs)
