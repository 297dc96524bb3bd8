use Rattle.std.proofs.Common.{length, arith}
use Rattle.version.specs.Version.{slots}
use Rattle.site.specs.State.{state, operation_named}
use Rattle.site.specs.Submitting.{asked}
use Rattle.site.proofs.Beginning.{begun}
use Rattle.site.proofs.state.Site.begin.Goals as goal

pub returns : goal.returns
returns g c digest k =
    let s = c.args.self.now in
    let x = c.in_ok-timestamp.ensures in
    let b =
    begun (length (slots s.version)) g.S.Scheme.G digest (g.S.Scheme.means c.args.scheme.now) (g.S.Scheme.means c.write_submit-length.new.scheme) (state s) (asked c.args.request)
    c.in_ok-timestamp.timestamp c.args.last c.args.out.now c.write_submit-length.new.out c.write_submit-length.result (operation_named c.of-ticket.result) c.of-ticket.ensures c.requires.short k
    (x.0, x.1, x.2, omega (arith, x.3, c.G.ensures, c.size.ensures)) c.write_submit-length.ensures in
    rw (c.code.ensures, c.register.ensures) b
