use Rattle.std.proofs.Common.{arith}
use Rattle.hmac.proofs.Differences.{tells}
use Rattle.hmac.proofs.equal.equal.Goals as goal

pub returns-then-signature-eq32 : goal.returns-then-signature-eq32
returns-then-signature-eq32 c = rw c.differing.ensures (tells c.args.signature.now c.args.mac.now (omega (arith, c.told-mac)))
