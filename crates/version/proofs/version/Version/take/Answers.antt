use Rattle.std.proofs.Common.{[], ◌∷◌, map, take, refl, arith}
use Rattle.std.proofs.lemmas.List.{map-append, take_more_set}
use Rattle.std.proofs.lemmas.Result.{err_from_is_err_and}
use Rattle.octets.proofs.Loops.{left_more, left_bad, left_all}
use Rattle.version.specs.Layout.{slot_field}
use Rattle.version.specs.Version.{slot_from}
use Rattle.version.proofs.SlotLaws.{slots_length, room}
use Rattle.version.proofs.LayoutLaws.{slots_got}
use Rattle.version.proofs.version.Version.take.Goals as goal

pub returns-in_err-slot : goal.returns-in_err-slot
returns-in_err-slot c =
    let p = err_from_is_err_and c.from_residual.result c.from_residual.ensures.1 in
    let n = room c.args.self.size c.args.self.sized.1 in
    let t = c.loop-slot-test.true in
    rw (p.1, p.2, slots_length c.args.self) (left_bad slot_field c.args.self.size c.args.bytes.now c.loop-slot.slot-index _ c.loop-slot.rest.now _ (omega (arith, n, t)) c.loop-slot.invariant c.in_err-slot.ensures)

pub loop-slot-preserved : goal.loop-slot-preserved
loop-slot-preserved c =
    let n = room c.args.self.size c.args.self.sized.1 in
    let t = c.loop-slot-test.true in
    let a = c.loop-slot.auto.slot-items in
    let i = c.loop-slot.slot-index in
    let xs = c.loop-slot.slot-items in
    let l = left_more slot_field c.args.self.size c.args.bytes.now i (map slot_from (take i xs)) c.loop-slot.rest.now (slot_from c.in_ok-slot.field-0-0) _ (omega (arith, n, t)) c.loop-slot.invariant c.in_ok-slot.ensures in
    rw (take_more_set xs i c.in_ok-slot.field-0-0 (omega (arith, n, t, a)), map-append slot_from (take i xs) (c.in_ok-slot.field-0-0 ∷ [])) l

pub returns : goal.returns
returns c =
    let n = room c.args.self.size c.args.self.sized.1 in
    let t = c.loop-slot-test.false in
    let a = c.loop-slot.auto.slot-items in
    let i = c.loop-slot.slot-index in
    let xs = c.loop-slot.slot-items in
    let l = left_all slot_field c.args.self.size c.args.bytes.now i (map slot_from (take i xs)) c.loop-slot.rest.now (omega (arith, n, t)) c.loop-slot.invariant in
    slots_got c.args.self _ i xs _ c.args.bytes.now c.loop-slot.rest.now refl refl (omega (arith, n, a)) (omega (arith, n, t)) l
