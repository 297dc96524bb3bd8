use Rattle.std.proofs.Common.{◌≡◌, ◌*◌, ◌<◌, List, ◌++◌, map, length, drop, vec_items, sym, ap, ◌∙◌, subst, arith, rules}
use Rattle.std.proofs.lemmas.List.{length-map}
use Rattle.signature.specs.Limits.{max_sites}
use Rattle.signature.specs.Calls.{Made}
use Rattle.ledger.specs.Entries.{Signing, most, count, meaning, serial, next_serial}
use Rattle.ledger.specs.Held.{held}
use Rattle.ledger.specs.Grown.{few_more, made, pushed}
use Rattle.ledger.proofs.Totals.{room_left}
use Rattle.ledger.proofs.scheme.LedgerScheme.sign.Goals as goal

pub push_reserved-requires : goal.push_reserved-requires
push_reserved-requires c =
    let l = c.args.self.now in
    let k = c.in_ok-check_sign.ensures.may_sign in
    omega (arith, l.entries.ok.0, room_left (vec_items l.entries) c.args.site l.few k.0.0 k.0.1 (omega (arith, k.2)))

pub invariant_of-self : goal.invariant_of-self
invariant_of-self c =
    let l = c.args.self.now in
    let k = c.in_ok-check_sign.ensures.may_sign in
    let e = pushed (vec_items l.entries) (vec_items c.push_reserved.new.self) c.of.result c.args.site c.args.text.now c.push_reserved.ensures.items c.of.ensures in
    let less : count c.args.site (map held (vec_items l.entries)) < most = omega (arith, k.2) in
    record {
      few = λ s. rw e (few_more (map held (vec_items l.entries)) c.args.site c.args.text.now l.few less s);
      room = omega (arith, l.room);
    }

pub returns : goal.returns
unfolding serial
returns c =
    let l = c.args.self.now in
    let es = map held (vec_items l.entries) in
    let k = c.in_ok-check_sign.ensures.may_sign in
    let e = pushed (vec_items l.entries) (vec_items c.push_reserved.new.self) c.of.result c.args.site c.args.text.now c.push_reserved.ensures.items c.of.ensures in
    let After : List Signing → Type 0 = λ fs. Made 8 (meaning es) (meaning fs) c.args.site c.args.text.now (next_serial es) in
    let n : c.len.result ≡ length es = c.len.ensures ∙ l.entries.ok.0 ∙ sym (length-map (vec_items l.entries) held) in
    let less : length (vec_items l.entries) < max_sites * most = room_left (vec_items l.entries) c.args.site l.few k.0.0 k.0.1 (omega (arith, k.2)) in
    let m = made es c.args.site c.args.text.now k.0 k.1 (omega (arith, k.2)) (omega (arith, l.entries.ok.0, n)) in
    let number : c.to_be_bytes.result ≡ next_serial es = rw (← n) (search rules) in
    let out = ap (λ z. z ++ drop 8 c.args.out.now) (c.copy_from_slice.ensures.after ∙ number) in
    record { signs = (next_serial es, subst After (sym e) m, omega arith, out); enters = (e, out) }
