use Rattle.std.proofs.Common.{refl, arith}
use Rattle.version.proofs.OrderLaws.{at_or_below_laws, examples}
use Rattle.version.proofs.SlotLaws.{slots_length, one_form}
use Rattle.version.proofs.version.Version.compare.Goals as goal

pub returns-then-self-other : goal.returns-then-self-other
returns-then-self-other c =
    let n = slots_length c.args.self.now in
    let m = slots_length c.args.other.now in
    record { answer = (λ e. omega arith, refl); lawful = at_or_below_laws; one_form = one_form; examples = examples }

pub returns : goal.returns
returns c =
    let n = slots_length c.args.self.now in
    let m = slots_length c.args.other.now in
    record { answer = (omega arith, rw c.from.ensures c.partial_cmp.ensures.stands); lawful = at_or_below_laws; one_form = one_form; examples = examples }
