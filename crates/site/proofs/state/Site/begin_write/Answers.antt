use Rattle.std.proofs.Common.{Some, sym, ap}
use Rattle.site.proofs.state.Site.begin_write.Goals as goal

pub returns : goal.returns
returns g c = c.begin.ensures g.D.Digest.means (record { last = ap Some (sym c.digest.ensures); ranged = tt; idle = c.in_ok-idle.ensures })
