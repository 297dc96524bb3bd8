use Rattle.message.specs.Reply.{listed}
use Rattle.site.proofs.Entering.{left_all}
use Rattle.site.proofs.Reading.{entry_in}
use Rattle.site.proofs.checker.Checker.check_entries.Goals as goal

pub check_entry-requires-clause-member : goal.check_entry-requires-clause-member
check_entry-requires-clause-member g c =
    entry_in g.S.Scheme.G c.args.reply.now c.requires c.as_slice-entry-items.result.now c.as_slice-entry-items.ensures c.loop-entry.entry-index _ c.loop-entry-test.true

pub rise-requires-clause-member : goal.rise-requires-clause-member
rise-requires-clause-member g c =
    rw c.loop-entry.invariant.sizes (entry_in g.S.Scheme.G c.args.reply.now c.requires c.as_slice-entry-items.result.now c.as_slice-entry-items.ensures c.loop-entry.entry-index _ c.loop-entry-test.true)

pub returns : goal.returns
returns g c =
    left_all g.D.Digest.means (g.S.Scheme.means c.args.self.now.scheme.now) c.args.self.now.number _ listed _ _ c.as_slice-entry-items.result.now
    c.loop-entry.entry-index _ c.loop-entry-test.false c.loop-entry.invariant.left
