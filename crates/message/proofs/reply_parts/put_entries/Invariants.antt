use Rattle.std.proofs.Common.{◌+◌, ◌*◌, ◌≤◌}
use Rattle.octets.specs.Puts.{Puts}
use Rattle.message.proofs.Replying.{list_put}
use Rattle.message.proofs.reply_parts.put_entries.Given as goal

abbrev pub invariant-loop-entry : goal.invariant-loop-entry
invariant-loop-entry l = (l.at ≤ l.initial.at + 67 * l.entry-index) × Puts (list_put l.g l.entries l.entry-index) l.initial.at l.initial.out l.out l.at
