use Rattle.std.proofs.Common.{◌≡◌, ◌/◌, ◌%◌, ◌<◌, length, Some, None, vec_items, ap, ◌∙◌, inl, inr, arith}
use Rattle.hex_text.specs.Hex.{digits}
use Rattle.hex_text.proofs.Digits.{digits_more, digits_all, no_byte, no_pairs, no_stop, pair_spelled}
use Rattle.hex_text.proofs.decode.Goals as goal
use Rattle.hex_text.proofs.decode.Goals.{then-is_empty-via-then-is_empty, then-is_empty-via-else-is_empty+then-not-is_empty}

pub returns-then-is_empty : goal.returns-then-is_empty
returns-then-is_empty c = λ bs h e.
    let p = c.as_chunks.ensures in
    no_pairs c.args.text.now (no_stop c.args.text.now c.as_slice.result.now c.as_slice.ensures c.if-eq.ensures)
    (elim c.then-is_empty.branch [
      | then-is_empty-via-then-is_empty w ↦ let y = c.is_empty.ensures in let t = w.if-is_empty.true in inl (grind (arith, p.front_len))
      | then-is_empty-via-else-is_empty+then-not-is_empty w ↦ let y = w.is_empty-else-is_empty.ensures in let t = w.if-not-is_empty.true in inr (λ z. grind (arith, p.back_len))
    ])
    bs e

pub loop-high-init : goal.loop-high-init
loop-high-init c = ap digits c.new-bytes.ensures.items

pub returns-in_default : goal.returns-in_default
returns-in_default c = λ bs h e.
    let text = c.args.text.now in
    let p = c.as_chunks.ensures in
    let k = c.loop-high.high-index in
    let within : k < length text / 2 = omega (arith, p.front_len, c.loop-high-test.true) in
    no_byte text k (omega arith) bs h e (pair_spelled text _ k None p.front within c.in_default.ensures)

pub loop-high-preserved : goal.loop-high-preserved
loop-high-preserved c =
    let text = c.args.text.now in
    let p = c.as_chunks.ensures in
    let k = c.loop-high.high-index in
    let within : k < length text / 2 = omega (arith, p.front_len, c.loop-high-test.true) in
    ap digits c.in_ok-push.ensures.items ∙ digits_more text (vec_items c.loop-high.bytes) k c.in-Some.byte (omega arith) c.loop-high.invariant (pair_spelled text _ k (Some c.in-Some.byte) p.front within c.in-Some.ensures)

pub returns : goal.returns
returns c =
    let p = c.as_chunks.ensures in
    let t = c.if-is_empty.ensures in
    let o = c.if-not-is_empty.ensures in
    let some : 0 < length c.args.text.now / 2 = grind (arith, p.front_len) in
    let even : length c.args.text.now % 2 ≡ 0 = grind (arith, p.back_len) in
    digits_all c.args.text.now (vec_items c.loop-high.bytes) c.loop-high.high-index (omega (arith, p.front_len, c.loop-high-test.false)) (omega arith) c.loop-high.invariant
