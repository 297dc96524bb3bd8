use Rattle.std.proofs.lemmas.List.{take_min}
use Rattle.message.proofs.reply.Entries.as_slice.Goals as goal

pub returns : goal.returns
returns c = rw (c.min.ensures, c.as_slice-items.ensures) (take_min c.args.self.now.count c.args.self.now.items)
