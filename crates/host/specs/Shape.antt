-- What every host keeps.
use Rattle.std.specs.Prelude.{ℕ, ◌≤◌}
use Rattle.signature.specs.Limits.{max_signature}

-- how many bytes a signature can have
abbrev pub Signature : ℕ → Type 0
Signature g = (1 ≤ g) × (g ≤ max_signature)
