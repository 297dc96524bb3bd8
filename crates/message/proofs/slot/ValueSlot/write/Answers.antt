use Rattle.std.proofs.Common.{rules}
use Rattle.std.proofs.lemmas.List.{append-nil}
use Rattle.message.specs.Slots.{value_stored}
use Rattle.message.proofs.Laws.{value_slot_law}
use Rattle.message.proofs.Writing.{writes, value_slot_put}
use Rattle.message.proofs.slot.ValueSlot.write.Goals as goal

pub returns : goal.returns
returns c g =
    let m = value_stored c.args.self.now in
    let v = c.in_ok-size.ensures in
    let e = value_slot_put g m _ c.in_ok-size.size c.in_ok-size.value.now (search rules) v.1 in
    writes m _ _ c.args.out.now _ _ (value_slot_law g) v.0 (rw (append-nil m.data_signature) e) c.fill.ensures
