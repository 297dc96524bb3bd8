use Rattle.std.proofs.Common.{◌+◌, arith}
use Rattle.sha256.specs.Window.{four_at}
use Rattle.sha256.proofs.Rounds.{block_word}
use Rattle.sha256.proofs.schedule.four_words.Goals as goal

pub returns : goal.returns
unfolding four_at
returns c =
    let w₀ = block_word c.args.block.now c.args.i (omega arith) in
    let w₁ = block_word c.args.block.now (c.args.i + 1) (omega arith) in
    let w₂ = block_word c.args.block.now (c.args.i + 2) (omega arith) in
    let w₃ = block_word c.args.block.now (c.args.i + 3) (omega arith) in
    cc
