use Rattle.std.proofs.Common.{◌∙◌}
use Rattle.site.proofs.Slotting.{digest_or}
use Rattle.site.proofs.versions.digest_of.Goals as goal

pub returns : goal.returns
returns c = c.unwrap_or.ensures ∙ digest_or c.args.version.now c.args.site c.digest.result c.digest.ensures
