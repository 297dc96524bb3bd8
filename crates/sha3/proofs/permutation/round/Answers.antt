use Rattle.sha3.specs.Keccak.{Rnd}
use Rattle.sha3.proofs.permutation.round.Goals as goal

pub returns : goal.returns
unfolding Rnd
returns c i e = cc
