use Rattle.std.proofs.Common.{vec_items}
use Rattle.forkcheck.proofs.Cases.{checks}
use Rattle.forkcheck.proofs.check.check.Goals as goal

pub returns : goal.returns
returns c =
    let a = c.args.left.now in
    let b = c.args.right.now in
    checks a.size b.size (vec_items a.bytes) (vec_items b.bytes) _ _ c.compare.result c.in_ok-left.ensures c.in_ok-right.ensures c.compare.ensures.answer
