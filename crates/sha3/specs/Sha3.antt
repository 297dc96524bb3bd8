-- FIPS 202, sections 4 to 6 and appendix B: the sponge and SHA3-256, on byte strings.
-- A byte stands for eight bits, the first of them the lowest (B.1).
use Rattle.std.specs.Prelude.{ℕ, zero, suc, ◌+◌, ◌-◌, ◌*◌, ◌/◌, ◌%◌, ◌^◌, List, [], ◌∷◌, ◌++◌, length, drop, replicate, bit_xor, slice_index}
use Rattle.digest.specs.Blocks.{hashed}
use Rattle.sha3.specs.Keccak.{keccak_f, lane, state}

-- 3.1.2: the lane i of a string, whose bits are those from 64 i on. Bits past its end are zeros.
unfoldable pub lane_of : List ℕ → ℕ → ℕ
lane_of P i =
    slice_index P (8 * i)
    + slice_index P (8 * i + 1) * 2 ^ 8
    + slice_index P (8 * i + 2) * 2 ^ 16
    + slice_index P (8 * i + 3) * 2 ^ 24
    + slice_index P (8 * i + 4) * 2 ^ 32
    + slice_index P (8 * i + 5) * 2 ^ 40
    + slice_index P (8 * i + 6) * 2 ^ 48
    + slice_index P (8 * i + 7) * 2 ^ 56

-- 3.1.3: the eight bytes of a lane
abbrev pub bytes_of : ℕ → List ℕ
bytes_of v =
    (v % 2 ^ 8)
    ∷ (v / 2 ^ 8 % 2 ^ 8)
    ∷ (v / 2 ^ 16 % 2 ^ 8)
    ∷ (v / 2 ^ 24 % 2 ^ 8)
    ∷ (v / 2 ^ 32 % 2 ^ 8)
    ∷ (v / 2 ^ 40 % 2 ^ 8)
    ∷ (v / 2 ^ 48 % 2 ^ 8)
    ∷ (v / 2 ^ 56 % 2 ^ 8) ∷ []

-- 4, step 6: S ⊕ (P ∥ 0ᶜ), and f of it
unfoldable pub xored : List ℕ → List ℕ → List ℕ
xored S P = state (λ x y. bit_xor (lane S x y) (lane_of P (x + 5 * y)))

unfoldable pub step : List ℕ → List ℕ → List ℕ
step S P = keccak_f (xored S P)

-- 4, steps 8 and 9: Trunc of the state to d = 256 bits, which is no more than the rate
unfoldable pub squeezed : List ℕ → List ℕ
squeezed S = bytes_of (lane S 0 0) ++ bytes_of (lane S 1 0) ++ bytes_of (lane S 2 0) ++ bytes_of (lane S 3 0)

-- 5.1: the bits that fill up m bits to a multiple of x
abbrev pub pad10*1 : ℕ → ℕ → List ℕ
pad10*1 x m = 1 ∷ (replicate ((x - (m + 2) % x) % x) 0 ++ 1 ∷ [])

-- B.1: the first 8 n bits as bytes
abbrev pub octets : ℕ → List ℕ → List ℕ
octets zero T = []
octets (suc n) T =
    (slice_index T 0 + slice_index T 1 * 2 ^ 1 + slice_index T 2 * 2 ^ 2 + slice_index T 3 * 2 ^ 3 + slice_index T 4 * 2 ^ 4 + slice_index T 5 * 2 ^ 5 + slice_index T 6 * 2 ^ 6 + slice_index T 7 * 2 ^ 7)
    ∷ octets n (drop 8 T)

-- 6.1: SHA3-256 (M) = KECCAK[512] (M ∥ 01, 256), with a rate of 1600 - 512 bits.
-- What follows a message of n bytes: the bits 01, and the padding of 8 n + 2 bits.
abbrev pub suffix : ℕ → List ℕ
suffix n = 0 ∷ 1 ∷ pad10*1 (1600 - 512) (8 * n + 2)

unfoldable pub padding : ℕ → List ℕ
padding n = octets (length (suffix n) / 8) (suffix n)

-- the bytes of a block, and the state 0ᵇ
abbrev pub rate : ℕ
rate = (1600 - 512) / 8

abbrev pub zeros : List ℕ
zeros = replicate 25 0

unfoldable pub sha3_256 : List ℕ → List ℕ
sha3_256 M = squeezed (hashed step rate padding zeros M)
