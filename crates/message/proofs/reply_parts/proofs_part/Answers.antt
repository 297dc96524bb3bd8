use Rattle.std.proofs.Common.{min, length, ap, ◌∙◌, arith}
use Rattle.message.proofs.Replying.{proofs_cut}
use Rattle.message.proofs.reply_parts.proofs_part.Goals as goal

pub returns : goal.returns
returns c = proofs_cut c.args.g c.args.proofs.now c.args.n c.min-size.result (omega arith) (c.min-size.ensures ∙ ap (λ k. min k (length c.args.proofs.now)) c.saturating_mul.ensures)
