use Rattle.std.proofs.Common.{arith}
use Rattle.message.specs.Slots.{version_slot, version_stored}
use Rattle.host.proofs.Keeping.{fits, written, version_slot_size}
use Rattle.host.proofs.keep.version_bytes.Goals as goal

pub unwrap-end-requires : goal.unwrap-end-requires
unwrap-end-requires c =
    let m = c.args.slot.now in
    let k = version_slot_size 0 0 m.version _ _ c.requires.commit c.requires.proof in
    fits (version_slot 0 0) (version_stored m) _ c.args.room.now _ _ (c.write.ensures 0 0) (λ z. z) (omega arith)

pub shared_ref_as_front-result : goal.shared_ref_as_front-result
shared_ref_as_front-result c =
    let m = c.args.slot.now in
    let k = version_slot_size 0 0 m.version _ _ c.requires.commit c.requires.proof in
    let w = written (version_slot 0 0) (version_stored m) _ c.args.room.now _ _ _ c.unwrap-end.ensures (c.write.ensures 0 0) in
    omega arith

pub returns-clause-bytes : goal.returns-clause-bytes
returns-clause-bytes c n g = (written (version_slot n g) (version_stored c.args.slot.now) _ c.args.room.now _ _ _ c.unwrap-end.ensures (c.write.ensures n g)).1
