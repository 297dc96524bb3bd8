-- A message that is taken block by block: `S` is the state, `step` what a block makes of it, and `size` the number of bytes of a block.
use Rattle.std.specs.Prelude.{◌≡◌, ℕ, zero, suc, ◌*◌, ◌/◌, ◌%◌, List, ◌++◌, length, take, drop}

-- the state after the first n blocks of bs, from s
unfoldable pub absorbed : {S : Type 0} → (S → List ℕ → S) → ℕ → S → List ℕ → ℕ → S
absorbed step size s bs zero = s
absorbed step size s bs (suc n) = step (absorbed step size s bs n) (take size (drop (size * n) bs))

-- the state after all whole blocks of bs, from s
abbrev pub whole : {S : Type 0} → (S → List ℕ → S) → ℕ → S → List ℕ → S
whole step size s bs = absorbed step size s bs (length bs / size)

-- the bytes of bs after its whole blocks, fewer than a block
abbrev pub left : ℕ → List ℕ → List ℕ
left size bs = drop (length bs / size * size) bs

-- the state after a message and its padding, which depends on the message's length alone
abbrev pub hashed : {S : Type 0} → (S → List ℕ → S) → ℕ → (ℕ → List ℕ) → S → List ℕ → S
hashed step size padding s bs = whole step size s (bs ++ padding (length bs))

-- A hasher that took the bytes bs piece by piece has its state, and the bytes that do not fill a block yet in front of its buffer.
-- `used` is their number.
pub record Holds {S : Type 0} (step : S → List ℕ → S) (size : ℕ) (start state : S) (buffer : List ℕ) (used : ℕ) (bs : List ℕ) : Type 0 where
  pub blocks : state ≡ whole step size start bs
  pub count : used ≡ length bs % size
  pub front : take used buffer ≡ left size bs
  pub wide : length buffer ≡ size
