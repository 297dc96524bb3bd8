use Rattle.std.proofs.Common.{◌∙◌}
use Rattle.site.proofs.Slotting.{stamp_or}
use Rattle.site.proofs.versions.timestamp_of.Goals as goal

pub returns : goal.returns
returns c = c.unwrap_or.ensures ∙ stamp_or c.args.version.now c.args.site c.timestamp.result c.timestamp.ensures
