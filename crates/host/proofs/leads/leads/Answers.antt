use Rattle.std.proofs.Common.{◌+◌, arith}
use Rattle.version.specs.Version.{slots}
use Rattle.host.proofs.Leading.{told_above, told_same}
use Rattle.host.proofs.leads.leads.Goals as goal
use Rattle.host.proofs.leads.leads.Goals.{then-old-new, else-old-new}

pub loop-site-preserved : goal.loop-site-preserved
loop-site-preserved c =
    let v = slots c.args.version.now in
    let w = slots c.args.other.now in
    let n = c.size-site-end.ensures.value in
    let i = c.loop-site.invariant in
    let new = c.timestamp_of-new.ensures in
    let old = c.timestamp_of-old.ensures in
    elim c.if-old-new.branch [
      | then-old-new y ↦ (i.0 + 1, omega arith, rw y.above-is (told_above v w i.0 c.loop-site.above i.2 c.loop-site.site _ _ i.1 (omega arith) (omega arith) new old y.if-old-new.true))
      | else-old-new y ↦ (i.0 + 1, omega arith, rw y.above-is (told_same v w i.0 c.loop-site.above i.2 c.loop-site.site _ _ i.1 (omega arith) (omega arith) new old c.if-new-old.false y.if-old-new.false))
    ]
