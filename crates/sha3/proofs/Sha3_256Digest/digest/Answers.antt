use Rattle.sha3.specs.Sha3.{sha3_256}
use Rattle.sha3.proofs.Sha3_256Digest.digest.Goals as goal

pub returns : goal.returns
unfolding sha3_256
returns c = c.conclude.ensures
