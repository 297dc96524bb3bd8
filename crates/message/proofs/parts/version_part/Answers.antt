use Rattle.std.proofs.Common.{arith}
use Rattle.message.proofs.Joining.{version_front}
use Rattle.message.proofs.parts.version_part.Goals as goal

pub returns : goal.returns
returns c = rw c.unwrap_or-end.ensures (version_front c.args.version.now c.args.room.now _ c.put.result (omega arith) c.put.ensures).1
