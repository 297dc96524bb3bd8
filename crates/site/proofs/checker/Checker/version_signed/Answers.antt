use Rattle.std.proofs.Common.{arith}
use Rattle.site.proofs.Texts.{commit_size}
use Rattle.site.proofs.checker.Checker.version_signed.Goals as goal

pub signed-requires : goal.signed-requires
signed-requires g c = let n = commit_size c.args.version.now in omega arith
