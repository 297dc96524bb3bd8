use Rattle.std.proofs.Common.{◌≡◌, suc, ◌-◌, ◌<◌, length, vec_items, arith}
use Rattle.store.proofs.Sites.{holds, others}
use Rattle.store.proofs.table.Table.refill.Goals as goal

pub returns : goal.returns
returns c =
    let t = c.args.self.now in
    let ps = vec_items t.sites in
    let at = c.from.ensures in
    let known = c.requires.known in
    let k = c.from.result - 1 in
    let is : c.args.site ≡ suc k = omega arith in
    let within : k < length ps = omega (arith, t.whole, t.sites.ok.0) in
    let p = c.index_mut.result.now in
    record {
      here = holds ps c.args.site k p is within c.index_mut.ensures.value c.args.slot c.args.bytes.now c.put.new.self c.put.ensures;
      others = others ps c.args.site k p is within c.index_mut.ensures.value c.args.slot c.args.bytes.now c.put.new.self c.put.ensures;
      no_more = omega arith;
      one_less = omega arith;
    }
