use Rattle.std.proofs.Common.{arith}
use Rattle.sha256.specs.Words.{Ch}
use Rattle.sha256.proofs.Choice.{choice}
use Rattle.sha256.proofs.words.ch.Goals as goal

pub returns : goal.returns
unfolding Ch
returns c = choice 32 c.args.x c.args.y c.args.z (omega arith) (omega arith)
