use Rattle.std.proofs.Common.{ℕ, List, [], ◌++◌, length, Option, unwrap_or, sym, ap, ◌∙◌, subst, arith}
use Rattle.octets.proofs.Places.{◌⨾◌}
use Rattle.octets.specs.Puts.{Puts}
use Rattle.message.specs.Strings.{proof_string}
use Rattle.signature.specs.Calls.{Made}
use Rattle.version.proofs.LayoutLaws.{version-length}
use Rattle.version.specs.Calls.{bytes_of}
use Rattle.site.proofs.Ranges.{signer}
use Rattle.site.proofs.Texts.{commit_size}
use Rattle.site.proofs.Writing.{put_known}
use Rattle.site.proofs.state.Site.write_commit.Goals as goal

pub unwrap-at-requires : goal.unwrap-at-requires
unwrap-at-requires g c =
    let h = ap length c.commit_start-head.ensures in
    let n = version-length c.args.self.now.version in
    let e = c.place-at.ensures.ends in
    put_known (bytes_of c.args.self.now.version) _ _ _ c.put.result (omega (arith, c.requires.room)) c.put.ensures

pub sign-at-requires : goal.sign-at-requires
sign-at-requires g c =
    let h = ap length c.commit_start-head.ensures in
    let n = version-length c.args.self.now.version in
    let k = commit_size c.args.self.now.version in
    let e = c.place-at.ensures.ends in
    let p = rw c.unwrap-at.ensures at c.put.ensures in
    record { ranged = signer c.args.self.now; short = omega arith; some = omega (arith, c.requires.two); room = omega (arith, p.ends, c.requires.room) }

pub sign-requires-clause-room : goal.sign-requires-clause-room
sign-requires-clause-room g c =
    let h = ap length c.commit_start-head.ensures in
    let n = version-length c.args.self.now.version in
    let e = c.place-at.ensures.ends in
    let p = rw c.unwrap-at.ensures at c.put.ensures in
    let s = c.sign-at.ensures in
    omega (arith, p.ends, s.1.fits.sized, s.2.ends, c.requires.room)

pub returns : goal.returns
returns g c =
    let p = rw c.unwrap-at.ensures at c.put.ensures in
    let s = c.sign-at.ensures in
    let d = c.sign.ensures in
    let own = sym c.digest_of.ensures ∙ c.unwrap-history.ensures in
    record {
      first = s.0;
      second = d.0;
      between = g.S.Scheme.means c.sign-at.new.scheme;
      commits = s.1;
      proves = subst (λ (z : Option (List ℕ)). Made g.S.Scheme.G (g.S.Scheme.means c.sign-at.new.scheme) (g.S.Scheme.means c.sign.new.scheme) c.args.self.now.number (proof_string (unwrap_or z [])) d.0) (sym own) d.1;
      written =
          subst (λ (front : List ℕ). Puts (front ++ (bytes_of c.args.self.now.version ++ (s.0 ++ d.0))) 0 c.args.out.now c.sign.new.out c.sign.result) c.commit_start-head.ensures
          (c.place-at.ensures ⨾ p ⨾ s.2 ⨾ d.2);
    }
