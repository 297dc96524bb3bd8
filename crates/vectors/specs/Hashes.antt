-- a message that is repeated
use Rattle.std.specs.Prelude.{ℕ, zero, suc, List, [], ◌++◌}

-- n times the bytes bs
unfoldable pub times : ℕ → List ℕ → List ℕ
times zero bs = []
times (suc n) bs = times n bs ++ bs
