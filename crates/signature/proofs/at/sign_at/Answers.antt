use Rattle.std.proofs.Common.{ℕ, subst, arith}
use Rattle.std.proofs.lemmas.Result.{err_from_is_err_and}
use Rattle.signature.specs.Calls.{SignRefused}
use Rattle.signature.proofs.Behind.{room, kept, signed}
use Rattle.signature.proofs.at.sign_at.Goals as goal

pub returns-in_err-sign : goal.returns-in_err-sign
returns-in_err-sign g c =
    let p = err_from_is_err_and c.from_residual.result c.from_residual.ensures.1 in
    let s = c.in_err-sign.ensures.signs in
    let was = c.args.out.now in
    let last = c.sign.new.out in
    let begin = c.min-begin.result in
    let e = room was last c.args.start begin c.min-begin.ensures in
    let Why : ℕ → Type 0 = λ n. SignRefused g.S.Scheme.G (g.S.Scheme.means c.args.scheme.now) c.args.site c.args.text.now n c.in_err-sign.field-0.0 in
    rw (p.1, p.2) (subst Why e s.0, s.1, kept was last c.args.start begin c.min-begin.ensures s.2)

pub returns : goal.returns
returns g c =
    let s = c.in_ok-sign.ensures.signs in
    let len = g.S.Scheme.G in
    (s.0, s.1, signed c.args.out.now c.sign.new.out c.args.start c.min-begin.result c.min-begin.ensures len s.0 _ g.met.S.Scheme.low s.1.fits.sized (omega arith) s.2 s.3)
