use Rattle.version.proofs.Writing.{version_written}
use Rattle.version.proofs.version.Version.write.Goals as goal

pub returns : goal.returns
returns c = rw c.ok_or.ensures.value (version_written c.args.self.now c.args.out.now _ c.put.result c.put.ensures)
