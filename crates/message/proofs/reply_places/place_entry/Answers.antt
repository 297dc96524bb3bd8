use Rattle.std.proofs.Common.{rules}
use Rattle.message.proofs.ReplyPlaced.{entry_placed}
use Rattle.message.proofs.reply_places.place_entry.Goals as goal

pub returns : goal.returns
returns c = entry_placed c.args.entry.now c.args.offset _ _ _ (search rules) c.place.ensures
