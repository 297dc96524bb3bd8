-- FIPS 202, section 3: the permutation KECCAK-f[1600]. A state is the list of its 25 lanes of w = 64 bits,
-- numbers below 2 ^ 64: the lane (x, y) stands at x + 5 y, and its bit z is the one of weight 2 ^ z (3.1.2).
use Rattle.std.specs.Prelude.{ℕ, zero, suc, ◌+◌, ◌-◌, ◌*◌, ◌/◌, ◌%◌, ◌^◌, List, [], ◌∷◌, ◌++◌, replicate, bit_and, bit_or, bit_xor, slice_index, slice_set}

-- A[x, y], where coordinates are taken modulo 5
abbrev pub lane : List ℕ → ℕ → ℕ → ℕ
lane A x y = slice_index A (x % 5 + 5 * (y % 5))

-- the plane y and the whole of the state with the lanes A'[x, y]
abbrev pub plane : (ℕ → ℕ → ℕ) → ℕ → List ℕ
plane A' y = A' 0 y ∷ A' 1 y ∷ A' 2 y ∷ A' 3 y ∷ A' 4 y ∷ []

abbrev pub state : (ℕ → ℕ → ℕ) → List ℕ
state A' = plane A' 0 ++ (plane A' 1 ++ (plane A' 2 ++ (plane A' 3 ++ plane A' 4)))

-- a lane with each bit moved k places up, k < 64, and the highest ones back to the bottom
abbrev pub rot : ℕ → ℕ → ℕ
rot zero v = v
rot (suc k) v = bit_or ((v * 2 ^ suc k) % 2 ^ 64) (v / 2 ^ (64 - suc k))

-- 3.2.1: θ
abbrev pub C : List ℕ → ℕ → ℕ
C A x = bit_xor (bit_xor (bit_xor (bit_xor (lane A x 0) (lane A x 1)) (lane A x 2)) (lane A x 3)) (lane A x 4)

abbrev pub D : List ℕ → ℕ → ℕ
D A x = bit_xor (C A (x + 4)) (rot 1 (C A (x + 1)))

unfoldable pub θ : List ℕ → List ℕ
θ A = state (λ x y. bit_xor (lane A x y) (D A x))

-- 3.2.2: the offsets of ρ. From (1, 0) on, (x, y) goes to (y, 2 x + 3 y), and at the step t the offset is (t + 1) (t + 2) / 2.
abbrev pub walk : ℕ → ℕ → ℕ → ℕ → List ℕ → List ℕ
walk zero t x y o = o
walk (suc n) t x y o = walk n (t + 1) y ((2 * x + 3 * y) % 5) (slice_set o (x + 5 * y) ((t + 1) * (t + 2) / 2 % 64))

abbrev pub Offsets : List ℕ
Offsets = walk 24 0 1 0 (replicate 25 0)

unfoldable pub ρ : List ℕ → List ℕ
ρ A = state (λ x y. rot (lane Offsets x y) (lane A x y))

-- 3.2.3: π
unfoldable pub π : List ℕ → List ℕ
π A = state (λ x y. lane A (x + 3 * y) x)

-- 3.2.4: χ
abbrev pub complement : ℕ → ℕ
complement v = 2 ^ 64 - 1 - v

unfoldable pub χ : List ℕ → List ℕ
χ A = state (λ x y. bit_xor (lane A x y) (bit_and (complement (lane A (x + 1) y)) (lane A (x + 2) y)))

-- 3.2.5, algorithm 5: one step of the shift register takes R to 0 ∥ R, adds R[8] to R[0], R[4], R[5] and R[6], and keeps eight bits.
abbrev pub shifted : List ℕ → List ℕ
shifted R =
    bit_xor (slice_index R 0) (slice_index R 8)
    ∷ slice_index R 1
    ∷ slice_index R 2
    ∷ slice_index R 3
    ∷ bit_xor (slice_index R 4) (slice_index R 8)
    ∷ bit_xor (slice_index R 5) (slice_index R 8)
    ∷ bit_xor (slice_index R 6) (slice_index R 8)
    ∷ slice_index R 7 ∷ []

-- the register after i steps, and its first bit
abbrev pub register : ℕ → List ℕ
register zero = 1 ∷ replicate 7 0
register (suc i) = shifted (0 ∷ register i)

abbrev pub rc : ℕ → ℕ
rc t = slice_index (register (t % 255)) 0

-- 3.2.5, algorithm 6: the constant of the round i has rc (j + 7 i) as its bit 2 ^ j - 1, for j = 0 .. 6, and no other bits.
unfoldable pub RC : ℕ → ℕ
RC i =
    rc (7 * i)
    + rc (1 + 7 * i) * 2 ^ 1
    + rc (2 + 7 * i) * 2 ^ 3
    + rc (3 + 7 * i) * 2 ^ 7
    + rc (4 + 7 * i) * 2 ^ 15
    + rc (5 + 7 * i) * 2 ^ 31
    + rc (6 + 7 * i) * 2 ^ 63

abbrev pub ι : List ℕ → ℕ → List ℕ
ι A i = slice_set A 0 (bit_xor (lane A 0 0) (RC i))

-- 3.3: the round i, and the first n rounds
unfoldable pub Rnd : List ℕ → ℕ → List ℕ
Rnd A i = ι (χ (π (ρ (θ A)))) i

unfoldable pub rounds : ℕ → List ℕ → List ℕ
rounds zero A = A
rounds (suc n) A = Rnd (rounds n A) n

-- 3.4: KECCAK-f[1600] is KECCAK-p[1600, 24]
abbrev pub keccak_f : List ℕ → List ℕ
keccak_f A = rounds 24 A
