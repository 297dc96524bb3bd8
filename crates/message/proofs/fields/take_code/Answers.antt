use Rattle.std.proofs.Common.{arith}
use Rattle.message.specs.declared.code.Code.TheVariants.{Read, Write}
use Rattle.message.proofs.fields.take_code.Goals as goal

pub returns-in-Err : goal.returns-in-Err
returns-in-Err c =
    let read = c.in-Err.ensures.1 Read in
    let write = c.in-Err.ensures.1 Write in
    grind (arith, read, write)
