use Rattle.std.proofs.Common.{◌≡◌, ◌/◌, length, ap, ◌∙◌, subst, arith}
use Rattle.std.specs.Simd.{first_chunks}
use Rattle.sha3.proofs.Mixed.{Mixed, mixed_more, mixed_all, lane_read}
use Rattle.sha3.proofs.sponge.mix.Goals as goal

pub loop-i-preserved : goal.loop-i-preserved
loop-i-preserved c =
    let block = c.args.block.now in
    let count : length block / 8 ≡ 17 = omega arith in
    let lanes = c.as_chunks.ensures.front ∙ ap (λ n. first_chunks 8 n block) count in
    let lane = lane_read block _ c.loop-i.i c.from_le_bytes.result lanes (omega (arith, c.as_chunks.ensures.front_len)) c.from_le_bytes.ensures in
    mixed_more c.args.a block c.loop-i.mixed c.loop-i.i _ (omega (arith, c.as_chunks.ensures.front_len)) c.loop-i.invariant lane

pub returns : goal.returns
returns c =
    let count : c.loop-i.i ≡ 17 = omega (arith, c.as_chunks.ensures.front_len) in
    mixed_all c.args.a c.args.block.now c.loop-i.mixed c.told-block (subst (Mixed c.args.a c.args.block.now c.loop-i.mixed) count c.loop-i.invariant)
