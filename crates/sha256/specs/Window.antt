-- the schedule four words at a time
use Rattle.std.specs.Prelude.{◌≡◌, ℕ, ◌+◌, ◌<◌, List, [], ◌∷◌, slice_index}
use Rattle.sha256.specs.Compression.{next_word}
use Rattle.sha256.specs.declared.schedule.Window.{Window}

-- FIPS 180-4, 6.2.2, step 1, of a whole schedule W
abbrev pub Scheduled : List ℕ → Type 0
Scheduled W = (t : ℕ) → t < 48 → slice_index W (t + 16) ≡ next_word W t

-- the four words from t on
unfoldable pub four_at : List ℕ → ℕ → List ℕ
four_at W t = slice_index W t ∷ slice_index W (t + 1) ∷ slice_index W (t + 2) ∷ slice_index W (t + 3) ∷ []

-- the sixteen words from t on, four by four
unfoldable pub sixteen_at : List ℕ → ℕ → List (List ℕ)
sixteen_at W t = four_at W t ∷ four_at W (t + 4) ∷ four_at W (t + 8) ∷ four_at W (t + 12) ∷ []

-- w has the sixteen words from t on
pub record Shows (W : List ℕ) (t : ℕ) (w : Window) : Type 0 where
  pub first : w.w0 ≡ four_at W t
  pub second : w.w4 ≡ four_at W (t + 4)
  pub third : w.w8 ≡ four_at W (t + 8)
  pub fourth : w.w12 ≡ four_at W (t + 12)
