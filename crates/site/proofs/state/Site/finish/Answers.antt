use Rattle.std.proofs.Common.{◌≡◌, length, refl, ◌∙◌, arith}
use Rattle.version.specs.Version.{slots}
use Rattle.site.specs.State.{state, operation_named}
use Rattle.site.proofs.Completing.{stopped_by, version_length_is, completed_by}
use Rattle.site.proofs.state.Site.finish.Goals as goal

pub invariant_of-self : goal.invariant_of-self
invariant_of-self g c =
    let s = c.args.self.now in
    let l : length (slots c.in-Ok-verify.running.version) ≡ length (slots s.version) =
    version_length_is g.S.Scheme.G g.D.Digest.means (g.S.Scheme.means c.args.scheme.now) (state s) (operation_named c.args.ticket) c.args.bytes.now (length c.args.out.now) c.in-Ok.admitted.0 c.in-Ok.admitted.1
    c.in-Ok.ensures c.in-Ok-verify.running c.in-Ok-verify.ensures (s.low, s.high) in
    record { low = s.low; high = omega (arith, s.high, l); wide = s.wide }

pub write_commit-length-requires-clause-room : goal.write_commit-length-requires-clause-room
write_commit-length-requires-clause-room g c =
    let s = c.args.self.now in
    let ad = c.in-Ok.ensures in
    let l : length (slots c.in-Ok-verify.running.version) ≡ length (slots s.version) =
    version_length_is g.S.Scheme.G g.D.Digest.means (g.S.Scheme.means c.args.scheme.now) (state s) (operation_named c.args.ticket) c.args.bytes.now (length c.args.out.now) c.in-Ok.admitted.0 c.in-Ok.admitted.1
    ad c.in-Ok-verify.running c.in-Ok-verify.ensures (s.low, s.high) in
    omega (arith, ad.fits, l)

pub returns-in-Ok-verify : goal.returns-in-Ok-verify
returns-in-Ok-verify g c =
    let s = c.args.self.now in
    let done =
    completed_by g.S.Scheme.G g.D.Digest.means (g.S.Scheme.means c.args.scheme.now) (state s) (operation_named c.args.ticket) c.args.bytes.now (length c.args.out.now) c.in-Ok.admitted.0 c.in-Ok.admitted.1
    c.in-Ok.ensures c.in-Ok-verify.running c.in-Ok-verify.ensures (s.low, s.high) (g.S.Scheme.means c.write_commit-length.new.scheme) c.args.out.now c.write_commit-length.new.out
    c.write_commit-length.result refl c.write_commit-length.ensures in
    (done.0, done.1, rw c.G.ensures at c.found_place-value.ensures ∙ done.2, done.3)

pub returns-in-Err-verify : goal.returns-in-Err-verify
returns-in-Err-verify g c =
    let s = c.args.self.now in (
      stopped_by g.S.Scheme.G g.D.Digest.means (g.S.Scheme.means c.args.scheme.now) (state s) (operation_named c.args.ticket) c.args.bytes.now (length c.args.out.now) c.in-Ok.admitted.0 c.in-Ok.admitted.1
          c.in-Ok.ensures c.args.out.now refl c.in-Err-verify.stop c.in-Err-verify.ensures,
      refl,
      refl,
    )
