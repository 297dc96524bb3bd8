use Rattle.std.proofs.Common.{◌+◌, arith}
use Rattle.octets.proofs.Places.{◌⨾◌, puts_length}
use Rattle.message.proofs.Joining.{joined_more, joined_length, joined_front}
use Rattle.message.proofs.parts.put_all.Goals as goal

pub returns-in_err-at : goal.returns-in_err-at
returns-in_err-at c =
    let ps = c.args.parts.now in
    let i = c.loop-part.part-index in
    let m = joined_length ps i (omega arith) in
    let f = joined_front ps (i + 1) in
    let e = c.loop-part.invariant.ends in
    let l = puts_length c.loop-part.invariant in
    let s = c.in_err-at.ensures.0 in
    rw c.from_residual.ensures (omega arith)

pub loop-part-preserved : goal.loop-part-preserved
loop-part-preserved c =
    let ps = c.args.parts.now in
    let i = c.loop-part.part-index in
    rw (joined_more ps i (omega arith)) (◌⨾◌ {is = c.put.new.out} c.loop-part.invariant c.in_ok-at.ensures)
