use Rattle.std.proofs.Common.{◌-◌, vec_items, sym, ◌∙◌, arith}
use Rattle.store.proofs.Sites.{slot_of}
use Rattle.store.proofs.table.Table.held.Goals as goal

pub returns : goal.returns
returns c =
    let t = c.args.self.now in
    let at = c.from.ensures in
    c.held.ensures ∙ sym (slot_of (vec_items t.sites) c.args.site (c.from.result - 1) c.index.result.now (omega arith) (omega (arith, t.whole, t.sites.ok.0)) c.index.ensures c.args.slot)
