-- FIPS 180-4, SHA-256: what a block makes of the hash value. A byte is a number below 256.
use Rattle.std.specs.Prelude.{ℕ, zero, suc, ◌+◌, ◌*◌, ◌^◌, List, [], ◌∷◌, ◌++◌, slice_index}
use Rattle.sha256.specs.Words.{Ch, Maj, Σ0, Σ1, plus, σ0, σ1}
use Rattle.sha256.specs.declared.compression.State.{State}

-- 4.2.2
unfoldable pub Constants : List ℕ
Constants =
    0x428a2f98 ∷ 0x71374491 ∷ 0xb5c0fbcf ∷ 0xe9b5dba5 ∷ 0x3956c25b ∷ 0x59f111f1 ∷ 0x923f82a4 ∷ 0xab1c5ed5 ∷
    0xd807aa98 ∷ 0x12835b01 ∷ 0x243185be ∷ 0x550c7dc3 ∷ 0x72be5d74 ∷ 0x80deb1fe ∷ 0x9bdc06a7 ∷ 0xc19bf174 ∷
    0xe49b69c1 ∷ 0xefbe4786 ∷ 0x0fc19dc6 ∷ 0x240ca1cc ∷ 0x2de92c6f ∷ 0x4a7484aa ∷ 0x5cb0a9dc ∷ 0x76f988da ∷
    0x983e5152 ∷ 0xa831c66d ∷ 0xb00327c8 ∷ 0xbf597fc7 ∷ 0xc6e00bf3 ∷ 0xd5a79147 ∷ 0x06ca6351 ∷ 0x14292967 ∷
    0x27b70a85 ∷ 0x2e1b2138 ∷ 0x4d2c6dfc ∷ 0x53380d13 ∷ 0x650a7354 ∷ 0x766a0abb ∷ 0x81c2c92e ∷ 0x92722c85 ∷
    0xa2bfe8a1 ∷ 0xa81a664b ∷ 0xc24b8b70 ∷ 0xc76c51a3 ∷ 0xd192e819 ∷ 0xd6990624 ∷ 0xf40e3585 ∷ 0x106aa070 ∷
    0x19a4c116 ∷ 0x1e376c08 ∷ 0x2748774c ∷ 0x34b0bcb5 ∷ 0x391c0cb3 ∷ 0x4ed8aa4a ∷ 0x5b9cca4f ∷ 0x682e6ff3 ∷
    0x748f82ee ∷ 0x78a5636f ∷ 0x84c87814 ∷ 0x8cc70208 ∷ 0x90befffa ∷ 0xa4506ceb ∷ 0xbef9a3f7 ∷ 0xc67178f2 ∷ []

-- 3.1 and 5.2.1: the word i of a block, its first byte the highest
abbrev pub word_at : List ℕ → ℕ → ℕ
word_at bs i = slice_index bs (4 * i) * 2 ^ 24 + slice_index bs (4 * i + 1) * 2 ^ 16 + slice_index bs (4 * i + 2) * 2 ^ 8 + slice_index bs (4 * i + 3)

-- its first n words
unfoldable pub words : List ℕ → ℕ → List ℕ
words bs zero = []
words bs (suc n) = words bs n ++ word_at bs n ∷ []

-- 6.2.2, step 1: the word t + 16 of the schedule, from the words t, t + 1, t + 9 and t + 14
unfoldable pub next_of : ℕ → ℕ → ℕ → ℕ → ℕ
next_of w₀ w₁ w₉ w₁₄ = plus (plus (plus (σ1 w₁₄) w₉) (σ0 w₁)) w₀

abbrev pub next_word : List ℕ → ℕ → ℕ
next_word w t = next_of (slice_index w t) (slice_index w (t + 1)) (slice_index w (t + 9)) (slice_index w (t + 14))

-- the schedule of the sixteen words m of a block, with n words more: the whole has 48 more
unfoldable pub schedule : List ℕ → ℕ → List ℕ
schedule m zero = m
schedule m (suc n) = schedule m n ++ next_word (schedule m n) n ∷ []

-- 6.2.2, step 3: one round, with the constant k and the word w
abbrev pub T1 : State → ℕ → ℕ → ℕ
T1 s k w = plus (plus (plus (plus s.h (Σ1 s.e)) (Ch s.e s.f s.g)) k) w

abbrev pub T2 : State → ℕ
T2 s = plus (Σ0 s.a) (Maj s.a s.b s.c)

unfoldable pub one_round : State → ℕ → ℕ → State
one_round s k w =
    record { a = plus (T1 s k w) (T2 s); b = s.a; c = s.b; d = s.c; e = plus s.d (T1 s k w); f = s.e; g = s.f; h = s.g }

-- the first t rounds, with the schedule w
unfoldable pub rounds : List ℕ → State → ℕ → State
rounds w s zero = s
rounds w s (suc t) = one_round (rounds w s t) (slice_index Constants t) (slice_index w t)

-- 6.2.2, step 4
unfoldable pub added : State → State → State
added s r =
    record {
      a = plus s.a r.a;
      b = plus s.b r.b;
      c = plus s.c r.c;
      d = plus s.d r.d;
      e = plus s.e r.e;
      f = plus s.f r.f;
      g = plus s.g r.g;
      h = plus s.h r.h;
    }

-- 6.2.2: the next hash value, after a block of 64 bytes
unfoldable pub compressed : State → List ℕ → State
compressed s block = added s (rounds (schedule (words block 16) 48) s 64)
