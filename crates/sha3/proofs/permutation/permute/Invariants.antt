use Rattle.std.proofs.Common.{◌≡◌}
use Rattle.sha3.specs.Keccak.{rounds}
use Rattle.sha3.proofs.permutation.permute.Given as goal

abbrev pub invariant-loop-constant : goal.invariant-loop-constant
invariant-loop-constant l = l.b ≡ rounds l.constant-index l.initial.b
