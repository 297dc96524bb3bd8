-- What every version keeps, so that each version has one form.
use Rattle.std.specs.Prelude.{◌≡◌, ℕ, ◌≤◌, List, replicate, None, Option, slice_index_or}
use Rattle.std.specs.Option.{unwrap_or}

-- groups have 1 to 8 sites
abbrev pub Size : ℕ → Type 0
Size n = (1 ≤ n) × (n ≤ 8)

-- nothing past the group's size
abbrev pub Bounded : {A : Type 0} → ℕ → List (Option A) → Type 0
Bounded n xs = (k : ℕ) → n ≤ k → slice_index_or xs k None ≡ None

-- the bytes of a digest: 32 zeros where there is none
abbrev pub digest_bytes : Option (List ℕ) → List ℕ
digest_bytes d = unwrap_or d (replicate 32 0)
