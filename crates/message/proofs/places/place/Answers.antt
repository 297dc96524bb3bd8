use Rattle.std.proofs.Common.{rules, refl}
use Rattle.message.proofs.Placed.{ends, passed, stands}
use Rattle.message.proofs.places.place.Goals as goal

pub returns : goal.returns
returns c bs rest l h =
    let xs = c.args.part.now in
    ((stands bs xs rest c.args.offset h _ refl (search rules), ends bs xs rest c.args.offset h _ l (search rules)), passed bs xs rest c.args.offset h _ l (search rules))
