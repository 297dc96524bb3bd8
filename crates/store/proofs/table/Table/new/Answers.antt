use Rattle.std.proofs.Common.{rules, tests}
use Rattle.store.proofs.Sites.{all_empty}
use Rattle.store.proofs.table.Table.new.Goals as goal

pub returns : goal.returns
returns c s i =
    let a = c.in_ok-resize_with.ensures.items in
    rw (a.2, c.new-sites.ensures.items, c.from.ensures) (all_empty _ _ a.1 a.0 (λ g h p e. search (rules, tests)) a.3 s i)
