use Rattle.std.proofs.Common.{◌≡◌, ◌<◌, ◌≤◌, min, length, take, sym, ap, ◌∙◌, arith}
use native.Mathlib.Nat.{min-le_right}
use Rattle.std.proofs.lemmas.List.{length-set, length-take-le, take_min}
use Rattle.message.proofs.ReplyPlaced.{entries_more, entries_placed}
use Rattle.message.proofs.reply_places.place_entries.Goals as goal

pub loop-i-preserved : goal.loop-i-preserved
loop-i-preserved c =
    let i = c.loop-i.i in
    let ps = c.loop-i.places in
    let p = c.place_entry-behind.result.0 in
    let items = c.args.items.now in
    let low = min-le_right c.args.count 8 in
    let few : c.min.result ≤ 8 = omega arith in
    let l : length (take c.min.result items) ≡ c.min.result = length-take-le c.min.result items (omega arith) in
    let w : i < length ps = omega arith in (
      length-set ps i p ∙ c.loop-i.invariant.0,
      entries_more (take c.min.result items) i _ ps c.saturating_add-end.result c.loop-i.end _ p c.loop-i-test.true w c.loop-i.invariant.1 c.place_entry-behind.ensures,
    )

pub returns : goal.returns
returns c =
    let items = c.args.items.now in
    let eight : 8 ≡ length items = omega arith in
    let t : take c.min.result items ≡ take c.args.count items = ap (λ k. take k items) (c.min.ensures ∙ ap (min c.args.count) eight) ∙ take_min c.args.count items in
    rw (sym t) (entries_placed (take c.min.result items) c.loop-i.i c.loop-i.places c.args.offset c.saturating_add-end.result c.loop-i.end c.saturating_add-end.ensures c.loop-i-test.false c.loop-i.invariant.1)
