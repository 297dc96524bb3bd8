use Rattle.std.proofs.Common.{min, take, arith}
use Rattle.message.proofs.Replying.{entries_front, first_eight}
use Rattle.message.proofs.reply_parts.entries_part.Goals as goal

pub returns : goal.returns
returns c =
    let es = c.args.entries.now in
    let f = first_eight es c.min-count.result c.min-count.ensures in
    let p = rw (c.min.ensures, f.0) at c.put_entries.ensures in
    rw c.unwrap_or-end.ensures (entries_front (min c.args.g 64) (take 8 es) c.args.room.now _ c.put_entries.result f.1 (omega arith) p).1
