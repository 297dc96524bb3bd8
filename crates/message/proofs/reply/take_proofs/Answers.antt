use Rattle.std.proofs.Common.{◌≡◌, ◌-◌, ◌*◌, length, ap, ◌∙◌, arith}
use Rattle.std.proofs.lemmas.List.{length-drop}
use Rattle.octets.specs.Field.{span}
use Rattle.octets.proofs.Loops.{left_all}
use Rattle.message.specs.Reply.{signatures}
use Rattle.message.proofs.Placing.{signatures_more, signatures_front}
use Rattle.message.proofs.reply.take_proofs.Goals as goal

pub loop-preserved : goal.loop-preserved
loop-preserved c =
    let m = signatures_more c.args.g c.args.n c.loop.counter c.args.bytes.now c.loop.rest.now _ _ c.loop-test.true c.loop.invariant.within c.loop.invariant.rest c.loop.invariant.left c.in_ok-behind.ensures in
    record { within = m.0; rest = m.1; left = m.2 }

pub returns : goal.returns
returns c =
    let g = c.args.g in
    let n = c.args.n in
    let bs = c.args.bytes.now in
    let k : c.loop.counter ≡ n = omega arith in
    let w = c.loop.invariant.within in
    let r = c.loop.invariant.rest in
    let d = ap length r ∙ length-drop (g * c.loop.counter) bs in
    let s : length bs - length c.loop.rest.now ≡ g * c.loop.counter = omega arith in
    let l = left_all (span g) n bs c.loop.counter _ c.loop.rest.now (omega arith) c.loop.invariant.left in
    let front : signatures g c.split_at.result.0.now n 0 ≡ signatures g bs n 0 = rw (c.split_at.ensures.front, s, k) (signatures_front g n (g * n) bs (omega arith)) in
    record { got = l ∙ rw (front, k, c.split_at.ensures.back, s, r); sized = c.split_at.ensures.front_len ∙ s ∙ ap (λ m. g * m) k }
