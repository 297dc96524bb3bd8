use mathlib.Core.List.{is_set}
use mathlib.Core.Logic.{∥∥₁_elim}
use native.Mathlib.Nat.{ℕ_set}
use Rattle.hmac.proofs.keyed.Keyed.mac.Goals as goal

pub returns : goal.returns
returns c = ∥∥₁_elim c.args.self.now.absorbed (is_set ℕ_set _ _) (c.mac.ensures c.args.self.now.key)
