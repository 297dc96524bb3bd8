use Rattle.sha3.specs.Sha3.{step}
use Rattle.sha3.proofs.sponge.Sha3_256BlockHash136.compress.Goals as goal

pub returns : goal.returns
unfolding step
returns c = cc
