use Rattle.std.proofs.Common.{◌≡◌, ◌+◌, length, take}
use Rattle.message.specs.Writes.{joined}
use Rattle.message.proofs.parts.fit.Given as goal

abbrev pub invariant-loop-part : goal.invariant-loop-part
invariant-loop-part l = l.left + length (joined (take l.part-index l.parts)) ≡ l.room
