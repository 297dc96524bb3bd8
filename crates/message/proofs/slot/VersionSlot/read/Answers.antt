use Rattle.octets.proofs.Laws.{undoes}
use Rattle.std.proofs.lemmas.Result.{err_from_is_err_and}
use Rattle.message.specs.Slots.{version_slot, version_stored}
use Rattle.message.proofs.Laws.{version_slot_law}
use Rattle.message.proofs.Ending.{reads_whole}
use Rattle.message.proofs.slot.VersionSlot.read.Goals as goal

pub returns-in_err-zero : goal.returns-in_err-zero
returns-in_err-zero c =
    let p = err_from_is_err_and c.from_residual.result c.from_residual.ensures.1 in
    let z = c.in_err-zero.ensures in
    record { reads = rw (p.1, p.2, z.1) z.0; undoes = undoes (version_slot_law c.args.n c.args.g) }

pub returns : goal.returns
returns c =
    let n = c.args.n in
    let g = c.args.g in
    let u = undoes (version_slot_law n g) in
    let z = c.in_ok-zero.ensures in
    record { reads = reads_whole n (version_slot n g) version_stored c.args.bytes.now _ _ u (λ k. (c.type_inv.bytes k).fits) z.0 (rw z.1 at c.take_version_slot.ensures) c.whole.ensures; undoes = u }
