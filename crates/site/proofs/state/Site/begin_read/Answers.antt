use Rattle.std.proofs.Common.{refl, arith}
use Rattle.site.proofs.state.Site.begin_read.Goals as goal

pub returns : goal.returns
returns g c digest = c.begin.ensures digest (record { last = refl; ranged = (omega (arith, c.if-register-lt1.false), omega (arith, c.if-size-register.false, c.size.ensures.value)); idle = c.in_ok-idle.ensures })
