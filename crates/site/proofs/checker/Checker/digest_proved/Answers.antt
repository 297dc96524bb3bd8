use Rattle.std.proofs.Common.{sym}
use Rattle.site.proofs.Proving.{proved}
use Rattle.site.proofs.checker.Checker.digest_proved.Goals as goal

pub returns-in-Some : goal.returns-in-Some
returns-in-Some g c =
    proved g.S.Scheme.G c.args.proofs.now _ _ (g.S.Scheme.means c.args.self.now.scheme.now) _ c.in-Some.digest _ c.requires (sym c.in-Some.ensures)
    (rw (c.proof_at-proof.ensures, c.G.ensures) at c.signed.ensures)
