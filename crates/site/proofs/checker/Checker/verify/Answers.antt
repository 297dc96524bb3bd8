use Rattle.std.proofs.lemmas.Result.{err_from_is_err_and}
use Rattle.version.specs.Version.{slots}
use Rattle.site.proofs.Verifying.{list_stops, own_member, own_below}
use Rattle.site.proofs.checker.Checker.verify.Goals as goal

pub returns-in_err-running : goal.returns-in_err-running
returns-in_err-running g c =
    let q = err_from_is_err_and c.from_residual.result c.from_residual.ensures.1 in
    let signed = c.version_signed.ensures.0 c.if-not-version_signed.false in
    let follows = c.follows.ensures.0 c.if-not-follows.false in
    rw (q.1, q.2) (list_stops g.S.Scheme.G g.D.Digest.means (g.S.Scheme.means c.args.self.now.scheme.now) c.args.self.now.number (slots c.args.version.now) c.args.register c.args.reply.now signed follows _ c.requires.sizes _ c.in_err-running.ensures)

pub rise-requires : goal.rise-requires
rise-requires g c =
    let signed = c.version_signed.ensures.0 c.if-not-version_signed.false in
    let follows = c.follows.ensures.0 c.if-not-follows.false in
    let w = c.in_ok-running.running in
    let list = c.in_ok-running.ensures in
    record {
      member = own_member g.S.Scheme.G g.D.Digest.means (g.S.Scheme.means c.args.self.now.scheme.now) c.args.self.now.number (slots c.args.version.now) c.args.register c.args.reply.now signed follows _ c.requires.sizes w list c.requires.member;
      below = own_below g.S.Scheme.G g.D.Digest.means (g.S.Scheme.means c.args.self.now.scheme.now) c.args.self.now.number (slots c.args.version.now) c.args.register c.args.reply.now signed follows _ c.requires.sizes w list c.requires.below;
    }
