use Rattle.std.proofs.Common.{◌≡◌, ◌*◌, ◌≤◌, length, drop}
use Rattle.octets.specs.Field.{span}
use Rattle.octets.proofs.Loops.{Left}
use Rattle.message.specs.Reply.{signatures}
use Rattle.message.proofs.reply.take_proofs.Given as goal

abbrev pub invariant-loop : goal.invariant-loop
invariant-loop l = record {
  within : l.g * l.counter ≤ length l.bytes;
  rest : l.rest ≡ drop (l.g * l.counter) l.bytes;
  left : Left (span l.g) l.n l.bytes l.counter (signatures l.g l.bytes l.counter 0) l.rest;
}
