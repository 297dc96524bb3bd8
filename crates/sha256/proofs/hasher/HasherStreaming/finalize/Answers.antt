use Rattle.std.proofs.Common.{◌∙◌}
use Rattle.sha256.proofs.Pieces.{taken}
use Rattle.sha256.proofs.hasher.HasherStreaming.finalize.Goals as goal

pub returns : goal.returns
returns c bs h =
    c.conclude.ensures ∙ taken bs c.args.self.now.block c.args.self.now.state c.args.self.now.len h.holds h.count
