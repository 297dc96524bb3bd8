use Rattle.std.proofs.Common.{◌∙◌}
use Rattle.sha256.proofs.Pieces.{begun}
use Rattle.sha256.proofs.midstate.Midstate.digest.Goals as goal

pub returns : goal.returns
returns c block a = c.conclude.ensures ∙ begun block c.args.rest.now _ a.wide a.state
