use Rattle.octets.proofs.Laws.{undoes}
use Rattle.message.specs.Slots.{value_slot, value_stored}
use Rattle.message.proofs.Laws.{value_slot_law}
use Rattle.message.proofs.Ending.{reads_any}
use Rattle.message.proofs.slot.ValueSlot.read.Goals as goal

pub returns : goal.returns
returns c =
    let g = c.args.g in
    let u = undoes (value_slot_law g) in
    record { reads = reads_any (value_slot g) value_stored c.args.bytes.now _ _ u (λ k. (c.type_inv.bytes k).fits) c.take_value_slot.ensures c.whole.ensures; undoes = u }
