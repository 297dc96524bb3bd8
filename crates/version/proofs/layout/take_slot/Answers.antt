use Rattle.std.proofs.Common.{length, ap, ◌∙◌, arith}
use Rattle.std.proofs.lemmas.List.{length-take-le}
use Rattle.version.proofs.LayoutLaws.{slot_bad}
use Rattle.version.proofs.layout.take_slot.Goals as goal

pub invariant_of-result-clause-counted : goal.invariant_of-result-clause-counted
invariant_of-result-clause-counted c = omega arith

pub invariant_of-result-clause-wide : goal.invariant_of-result-clause-wide
invariant_of-result-clause-wide c = let h = c.in-Some.ensures.cases in ap length h.0 ∙ length-take-le 32 c.in_ok-timestamp.behind.now (omega (arith, h.2))

pub returns-then-ne : goal.returns-then-ne
returns-then-ne c = let h = c.in-Some.ensures.cases in slot_bad c.args.bytes.now c.in_ok-timestamp.behind.now _ _ c.in_ok-timestamp.ensures (omega arith) (omega (arith, h.2)) h.0 c.if-ne.ensures
