use Rattle.std.proofs.Common.{◌/◌, length, refl, ap, ◌∙◌, arith}
use Rattle.digest.specs.Blocks.{absorbed}
use Rattle.digest.proofs.Blocks.{absorbed_chunk}
use Rattle.digest.proofs.block_hash.absorb.Goals as goal

pub loop-block-init : goal.loop-block-init
unfolding absorbed
loop-block-init g c = refl

pub loop-block-preserved : goal.loop-block-preserved
loop-block-preserved g c =
    let step = g.B.BlockHash.step in
    let bytes = c.args.bytes.now in
    absorbed_chunk step g.row.N c.args.state.now _ _ bytes c.block-item.result c.as_chunks.result.0.now (length bytes / g.row.N) c.loop-block.block-index
    c.as_chunks.ensures.front (omega (arith, c.as_chunks.ensures.front_len)) c.loop-block.invariant
    (c.compress.ensures ∙ ap (step c.loop-block.state) c.block-item.is)
