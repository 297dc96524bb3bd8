use Rattle.std.proofs.Common.{length, ap, arith}
use Rattle.site.specs.Submitting.{asked}
use Rattle.site.proofs.Ranges.{signer}
use Rattle.site.proofs.Writing.{parts_length, submit_parts}
use Rattle.site.proofs.state.Site.write_submit.Goals as goal

pub sign-at-requires-clause-ranged : goal.sign-at-requires-clause-ranged
sign-at-requires-clause-ranged g c = signer c.args.self.now

pub place-at-requires-3 : goal.place-at-requires-3
place-at-requires-3 g c =
    let h = ap length c.submit_start-head.ensures in
    let v = rw (c.unwrap.ensures, c.value.ensures) at c.value_parts.ensures in
    let k = parts_length c.unwrap.result.0 c.unwrap.result.1.now (asked c.args.request) v.1 in
    let s = c.sign-at.ensures in
    let n = s.1.fits.sized in
    let e = s.2.ends in
    omega (arith, c.requires.room)

pub sign-requires-clause-room : goal.sign-requires-clause-room
sign-requires-clause-room g c =
    let h = ap length c.submit_start-head.ensures in
    let v = rw (c.unwrap.ensures, c.value.ensures) at c.value_parts.ensures in
    let k = parts_length c.unwrap.result.0 c.unwrap.result.1.now (asked c.args.request) v.1 in
    let s = c.sign-at.ensures in
    let n = s.1.fits.sized in
    let e = s.2.ends in
    omega (arith, c.requires.room)

pub returns : goal.returns
returns g c =
    let v = rw (c.unwrap.ensures, c.value.ensures) at c.value_parts.ensures in
    let s = c.sign-at.ensures in
    let d = c.sign.ensures in
    record {
      first = s.0;
      second = d.0;
      between = g.S.Scheme.means c.sign-at.new.scheme;
      submits = rw (c.code-code.ensures, c.register-register.ensures) at s.1;
      datas = rw c.as_ref.ensures.value at d.1;
      written =
          submit_parts c.args.self.now.number (asked c.args.request) c.args.timestamp (rw (c.code-code.ensures, c.register-register.ensures) at c.submit_start-head.ensures) v.1
          c.place-at.ensures s.2 c.place-at-2.ensures c.place-at-3.ensures d.2;
    }
