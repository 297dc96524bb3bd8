use Rattle.std.proofs.Common.{◌≡◌, length}
use Rattle.message.proofs.ReplyPlaced.{FirstStand}
use Rattle.message.proofs.reply_places.place_entries.Given as goal

abbrev pub invariant-loop-i : goal.invariant-loop-i
invariant-loop-i l = (length l.places ≡ 8) × FirstStand l.entries l.i l.places l.initial.end l.end
