use Rattle.std.proofs.Common.{◌≡◌, ◌+◌, ◌<◌, map, take, refl, ◌∙◌, arith}
use Rattle.std.proofs.lemmas.List.{length-take-le, get_or-take, map_more}
use Rattle.octets.proofs.Places.{puts_more}
use Rattle.version.specs.Layout.{slot_field}
use Rattle.version.specs.Version.{slot_from}
use Rattle.version.proofs.LayoutLaws.{version-length, slot_from-length}
use Rattle.version.proofs.SlotLaws.{slots_length, slots_map}
use Rattle.version.proofs.version.Version.put.Goals as goal

pub returns-then-out-end : goal.returns-then-out-end
returns-then-out-end c =
    let n = slots_length c.args.self.now in
    let l = version-length c.args.self.now in
    (omega (arith, c.in_ok-end.ensures), refl)

pub loop-slot-preserved : goal.loop-slot-preserved
loop-slot-preserved c =
    let v = c.args.self.now in
    let i = c.loop-slot.slot-index in
    let x = c.slot-item.result in
    let few = v.sized.1 in
    let eight = v.eight in
    let n = length-take-le v.size v.seen (omega arith) in
    let here : i < v.size = omega (arith, c.loop-slot-test.true, n) in
    let is = c.slot-item.is ∙ get_or-take v.size v.seen i x here in
    let q = c.in_ok-at.ensures in
    record {
      place = omega (arith, q.ends, c.loop-slot.invariant.place, slot_from-length x);
      written = puts_more slot_field (map slot_from (take i v.seen)) (map slot_from (take (i + 1) v.seen)) (slot_from x) (map_more slot_from v.seen i x (omega arith) ∙ rw (← is)) c.loop-slot.invariant.written q;
    }

pub returns : goal.returns
returns c =
    let v = c.args.self.now in
    let few = v.sized.1 in
    let eight = v.eight in
    let n = length-take-le v.size v.seen (omega arith) in
    let here : c.loop-slot.slot-index ≡ v.size = omega (arith, n, c.loop-slot-test.false, c.loop-slot.auto.slot-index-end) in
    rw (slots_map v, ← here) c.loop-slot.invariant.written
