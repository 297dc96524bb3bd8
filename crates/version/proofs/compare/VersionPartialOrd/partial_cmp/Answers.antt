use Rattle.std.proofs.Common.{◌∙◌}
use Rattle.version.proofs.OnePass.{one_pass_compared, sizes_differ}
use Rattle.version.proofs.OrderLaws.{compared_stands}
use Rattle.version.proofs.compare.VersionPartialOrd.partial_cmp.Goals as goal

pub returns-then-self-other : goal.returns-then-self-other
returns-then-self-other c =
    let u = c.args.self.now in
    let v = c.args.other.now in
    let e = sizes_differ u v c.if-self-other.true in
    record { value = e; stands = rw (← e) at (compared_stands u v) }

pub returns : goal.returns
returns c =
    let u = c.args.self.now in
    let v = c.args.other.now in
    let e = c.both_ways.ensures ∙ one_pass_compared u v c.both_below-below.result c.if-self-other.false c.both_below-below.ensures in
    record { value = e; stands = rw e (compared_stands u v) }
