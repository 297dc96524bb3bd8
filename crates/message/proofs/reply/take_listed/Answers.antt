use Rattle.std.proofs.Common.{map, take, ap, ◌∙◌, arith}
use Rattle.std.proofs.lemmas.List.{length-set, map_push, take_more_set}
use Rattle.std.proofs.lemmas.Result.{err_from_is_err_and}
use Rattle.octets.proofs.Loops.{left_more, left_bad}
use Rattle.message.specs.Reply.{entry, listed}
use Rattle.message.proofs.reply.take_listed.Goals as goal

pub returns-in_err-entry : goal.returns-in_err-entry
returns-in_err-entry c =
    let p = err_from_is_err_and c.from_residual.result c.from_residual.ensures.1 in
    rw (p.1, p.2) (left_bad (entry c.args.n c.args.g) c.args.count c.args.bytes.now c.loop-i.i _ c.loop-i.rest.now _ c.loop-i-test.true c.loop-i.invariant.1 c.in_err-entry.ensures)

pub loop-i-preserved : goal.loop-i-preserved
loop-i-preserved c =
    let i = c.loop-i.i in
    let e = c.in_ok-entry.entry in
    let xs = c.loop-i.items in
    let l = c.loop-i.invariant.0 in
    let more = ap (map listed) (take_more_set xs i e (omega arith)) ∙ map_push listed (take i xs) e in (
      length-set xs i e ∙ l,
      rw more (left_more (entry c.args.n c.args.g) c.args.count c.args.bytes.now i _ c.loop-i.rest.now (listed e) _ c.loop-i-test.true c.loop-i.invariant.1 c.in_ok-entry.ensures),
    )
