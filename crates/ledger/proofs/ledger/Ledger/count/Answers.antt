use Rattle.std.proofs.Common.{◌≡◌, ◌<◌, map, length, get_or, vec_items, sym, refl, ap, ◌∙◌, arith}
use Rattle.std.proofs.lemmas.List.{take_all, length-map}
use Rattle.ledger.specs.Entries.{count}
use Rattle.ledger.specs.Held.{held}
use Rattle.ledger.proofs.Counts.{count_take_le, one_more, none_more}
use Rattle.ledger.proofs.ledger.Ledger.count.Goals as goal
use Rattle.ledger.proofs.ledger.Ledger.count.Goals.{then-entry-site, else-entry-site}

pub loop-entry-init : goal.loop-entry-init
loop-entry-init c = refl

pub overflow_add-n : goal.overflow_add-n
overflow_add-n c = omega (arith, c.loop-entry.invariant, c.args.self.now.few c.args.site, count_take_le c.args.site (map held (vec_items c.args.self.now.entries)) c.loop-entry.entry-index)

pub loop-entry-preserved : goal.loop-entry-preserved
loop-entry-preserved c =
    let xs = vec_items c.args.self.now.entries in
    let i = c.loop-entry.entry-index in
    let e = c.entry-item.result in
    let v = c.deref-entry-items.ensures.value in
    let below : i < length xs = rw (← v) c.loop-entry-test.true in
    let is : e ≡ get_or xs i e = rw (← v) c.entry-item.is in
    elim c.if-entry-site.branch [
      | then-entry-site w ↦ w.n-is ∙ (rw c.loop-entry.invariant (sym (one_more xs i e c.args.site below is (omega arith))))
      | else-entry-site w ↦ w.n-is ∙ c.loop-entry.invariant ∙ sym (none_more xs i e c.args.site below is (λ same. omega arith))
    ]

pub returns : goal.returns
returns c =
    let xs = vec_items c.args.self.now.entries in
    let v = c.deref-entry-items.ensures.value in
    let all = c.loop-entry.invariant ∙ ap (count c.args.site) (take_all c.loop-entry.entry-index (map held xs) (rw (length-map, ← v) (omega arith))) in
    all
