use Rattle.std.proofs.Common.{◌≡◌}
use Rattle.digest.specs.Blocks.{absorbed}
use Rattle.digest.proofs.block_hash.absorb.Given as goal

abbrev pub invariant-loop-block : goal.invariant-loop-block
invariant-loop-block g l = l.state ≡ absorbed g.B.BlockHash.step g.row.N l.initial.state l.bytes l.block-index
