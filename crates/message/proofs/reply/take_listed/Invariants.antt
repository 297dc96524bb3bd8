use Rattle.std.proofs.Common.{◌≡◌, map, length, take}
use Rattle.octets.proofs.Loops.{Left}
use Rattle.message.specs.Reply.{entry, listed}
use Rattle.message.proofs.reply.take_listed.Given as goal

abbrev pub invariant-loop-i : goal.invariant-loop-i
invariant-loop-i l = (length l.items ≡ 8) × Left (entry l.n l.g) l.count l.bytes l.i (map listed (take l.i l.items)) l.rest
