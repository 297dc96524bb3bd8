use Rattle.std.proofs.Common.{arith}
use Rattle.message.proofs.Replying.{list_more}
use Rattle.message.proofs.reply_parts.put_entries.Goals as goal

pub loop-entry-preserved : goal.loop-entry-preserved
loop-entry-preserved c =
    let q = c.in_ok-at-2.ensures in
    list_more c.args.g c.args.entries.now c.loop-entry.entry-index _ (omega arith) c.requires.signature_fits c.loop-entry.invariant.0 c.loop-entry.invariant.1 q
