use Rattle.std.proofs.lemmas.List.{append-nil}
use Rattle.message.specs.Slots.{version_stored}
use Rattle.message.proofs.Laws.{version_slot_law}
use Rattle.message.proofs.Writing.{writes}
use Rattle.message.proofs.slot.VersionSlot.write.Goals as goal

pub returns : goal.returns
returns c n g =
    let m = version_stored c.args.self.now in
    writes m _ _ c.args.out.now _ _ (version_slot_law n g) (λ z. z) (rw (append-nil m.proof_signature, c.version_part-version.ensures)) c.fill.ensures
