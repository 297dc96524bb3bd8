use Rattle.message.proofs.Replying.{entry_put}
use Rattle.message.proofs.reply_parts.put_entry.Goals as goal

pub returns : goal.returns
returns c =
    entry_put c.args.g c.args.entry.now _ c.args.start _ c.args.out.now _ _ c.put-2.result c.requires c.entry_head-head.ensures c.in_ok-at.ensures c.put-2.ensures
