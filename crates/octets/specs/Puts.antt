-- What a call leaves that writes bytes at a place of a lent buffer.
use Rattle.std.specs.Prelude.{◌≡◌, ℕ, ◌+◌, ◌<◌, ◌≤◌, List, ◌++◌, length, take, drop, Some, None, Option}

-- the bytes stand from `start` up to `end`, and all in front of them and behind them is as it was
pub record Puts (bs : List ℕ) (start : ℕ) (was is : List ℕ) (end : ℕ) : Type 0 where
  pub ends : end ≡ start + length bs
  pub room : end ≤ length was
  pub after : is ≡ take start was ++ (bs ++ drop end was)

-- or they do not fit, and nothing has changed
abbrev pub PutsOrNot : List ℕ → ℕ → List ℕ → List ℕ → Option ℕ → Type 0
PutsOrNot bs start was is (Some end) = Puts bs start was is end
PutsOrNot bs start was is None = (length was < start + length bs) × (is ≡ was)
