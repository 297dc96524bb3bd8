use Rattle.std.proofs.Common.{None, refl, ◌∙◌, arith}
use Rattle.std.proofs.lemmas.List.{length-set, get_or-set_other}
use Rattle.std.proofs.lemmas.Result.{err_from_is_err_and}
use Rattle.version.proofs.SlotLaws.{slots_length, slots_set, stamp_read, at_limit, counted}
use Rattle.version.proofs.version.Version.raise.Goals as goal

pub returns-in_err-timestamp : goal.returns-in_err-timestamp
returns-in_err-timestamp c =
    let p = c.in_ok-place.ensures in
    let t = stamp_read c.args.self.now c.args.site _ _ p.0 p.1 p.2 c.map_or-count.result c.map_or-count.ensures in
    let f = err_from_is_err_and c.from_residual-in_err-timestamp.result c.from_residual-in_err-timestamp.ensures.1 in
    let w = c.in_err-timestamp.ensures in
    let k = at_limit c.checked_add.result c.map_or-count.result c.in_err-timestamp.field-0.0 w.ok_part w.value c.checked_add.ensures in
    let low = c.map_or-count.type_inv in
    rw (f.1, f.2, k.0) (p.0, omega (arith, k.1, low, t), refl)

pub invariant_of-self-2-clause-eight : goal.invariant_of-self-2-clause-eight
invariant_of-self-2-clause-eight c = length-set c.args.self.now.seen _ _ ∙ c.args.self.now.eight

pub invariant_of-self-2-clause-bounded : goal.invariant_of-self-2-clause-bounded
invariant_of-self-2-clause-bounded c k past =
    let v = c.args.self.now in
    let n = slots_length v in
    let some = v.sized.0 in
    get_or-set_other v.seen _ k _ None (λ e. omega (arith, c.in_ok-place.ensures.0, c.in_ok-place.ensures.1, past, e)) ∙ v.bounded k past

pub returns : goal.returns
returns c =
    let v = c.args.self.now in
    let p = c.in_ok-place.ensures in
    let t = stamp_read v c.args.site _ _ p.0 p.1 p.2 c.map_or-count.result c.map_or-count.ensures in
    let k = counted c.checked_add.result c.map_or-count.result c.in_ok-timestamp.timestamp c.in_ok-timestamp.ensures.ok_part c.checked_add.ensures in
    let n = slots_length v in
    let eight = v.eight in
    (p.0, omega (arith, t, k.0), slots_set v _ c.in_ok-place.place _ refl (omega (arith, p.0, p.1)) (omega (arith, p.2)) refl ∙ rw (p.1, k.1, t))
