use Rattle.std.proofs.Common.{◌≡◌, ◌*◌, length}
use Rattle.octets.proofs.Laws.{undoes}
use Rattle.std.proofs.lemmas.Result.{err_from_is_err_and}
use Rattle.message.specs.Reply.{reply, response}
use Rattle.message.proofs.Laws.{reply_law}
use Rattle.message.proofs.Ending.{ended_known, reads_whole}
use Rattle.message.proofs.Placing.{reply_placed}
use Rattle.message.proofs.reply.Reply.read.Goals as goal

pub returns-in_err-zero : goal.returns-in_err-zero
returns-in_err-zero c =
    let p = err_from_is_err_and c.from_residual.result c.from_residual.ensures.1 in
    let z = c.in_err-zero.ensures in
    record { reads = rw (p.1, p.2, z.1) z.0; placed = rw p.1 tt; sized = rw p.1 tt; undoes = undoes (reply_law c.args.n c.args.g) }

pub returns : goal.returns
returns c =
    let n = c.args.n in
    let g = c.args.g in
    let bs = c.args.bytes.now in
    let u = undoes (reply_law n g) in
    let z = c.in_ok-zero.ensures in
    let r = reads_whole n (reply n g) (response g n) bs _ _ u (λ k. (c.type_inv.bytes k).fits) z.0 (rw z.1 at c.take_reply.ensures.got) c.whole.ensures in
    let s = ended_known (λ m. length m.proofs.now ≡ g * n) bs _ _ c.whole.ensures (rw z.1 at c.take_reply.ensures.sized) in
    record { reads = r; sized = s; placed = reply_placed n g bs c.whole.result (λ k. (c.type_inv.bytes k).fits) r; undoes = u }
