use Rattle.std.proofs.Common.{arith}
use Rattle.octets.proofs.Laws.{undoes, read_all}
use Rattle.version.specs.Layout.{version_field}
use Rattle.version.proofs.LayoutLaws.{version_law}
use Rattle.version.proofs.SlotLaws.{zero_length}
use Rattle.version.proofs.version.Version.read.Goals as goal

pub returns-in_err-zero-clause-undoes : goal.returns-in_err-zero-clause-undoes
returns-in_err-zero-clause-undoes c = undoes (version_law c.args.size)

pub returns-in-Ok-default-empty : goal.returns-in-Ok-default-empty
returns-in-Ok-default-empty c =
    let z = c.in_ok-zero.ensures in
    let n = zero_length c.in_ok-zero.field-0 c.args.size z.1 in
    let u = undoes (version_law c.args.size) in
    let few = c.in-Ok-default-empty.len_below in
    let e = read_all (version_field c.args.size) c.args.bytes.now _ _ (rw n at c.in-Ok-default-empty.ensures) (omega arith) in
    let w = u.writing c.args.bytes.now _ (λ k. (c.type_inv.bytes k).fits) e in
    record { reads = (z.0, w.1.0, e, w.0); undoes = u }

pub returns-clause-undoes : goal.returns-clause-undoes
returns-clause-undoes c = undoes (version_law c.args.size)
