use Rattle.std.proofs.Common.{take}
use Rattle.octets.specs.Puts.{Puts}
use Rattle.message.specs.Writes.{joined}
use Rattle.message.proofs.parts.put_all.Given as goal

abbrev pub invariant-loop-part : goal.invariant-loop-part
invariant-loop-part l = Puts (joined (take l.part-index l.parts)) 0 l.initial.out l.out l.at
