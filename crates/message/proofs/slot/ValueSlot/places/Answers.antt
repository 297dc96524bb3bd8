use Rattle.std.proofs.Common.{[], rules, arith}
use Rattle.std.proofs.lemmas.List.{append-nil}
use Rattle.message.specs.Slots.{value_slot, value_stored}
use Rattle.message.proofs.slot.ValueSlot.places.Goals as goal

pub returns : goal.returns
returns c g l =
    let m = value_stored c.args.self.now in
    let bs = (value_slot g).put m in
    let a = c.place_value-value.ensures bs m.data_signature l (record { within = omega arith; there = search rules }) in
    let b = c.place.ensures bs [] l (rw (append-nil m.data_signature) a.1) in
    record { value = a.0.0; data_signature = b.0.0 }
