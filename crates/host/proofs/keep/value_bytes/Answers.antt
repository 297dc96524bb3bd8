use Rattle.std.proofs.Common.{arith}
use Rattle.message.specs.Slots.{value_slot, value_stored}
use Rattle.host.proofs.Keeping.{fits, written, value_slot_size}
use Rattle.host.proofs.keep.value_bytes.Goals as goal

pub unwrap-end-requires : goal.unwrap-end-requires
unwrap-end-requires c =
    let m = value_stored c.args.slot.now in
    let k = value_slot_size 0 m c.requires.value c.requires.signature in
    fits (value_slot 0) m _ c.args.room.now _ _ (c.write.ensures 0) c.requires.value (omega arith)

pub shared_ref_as_front-result : goal.shared_ref_as_front-result
shared_ref_as_front-result c =
    let m = value_stored c.args.slot.now in
    let k = value_slot_size 0 m c.requires.value c.requires.signature in
    let w = written (value_slot 0) m _ c.args.room.now _ _ _ c.unwrap-end.ensures (c.write.ensures 0) in
    omega arith

pub returns-clause-bytes : goal.returns-clause-bytes
returns-clause-bytes c g = (written (value_slot g) (value_stored c.args.slot.now) _ c.args.room.now _ _ _ c.unwrap-end.ensures (c.write.ensures g)).1
