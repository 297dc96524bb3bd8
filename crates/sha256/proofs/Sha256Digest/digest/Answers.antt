use Rattle.sha256.specs.Sha256.{sha256}
use Rattle.sha256.proofs.Sha256Digest.digest.Goals as goal

pub returns : goal.returns
unfolding sha256
returns c = c.conclude.ensures
