use Rattle.std.proofs.Common.{◌++◌, length, drop, replicate, ap}
use Rattle.sha3.proofs.Padding.{laid}
use Rattle.sha3.proofs.sponge.last_block.Goals as goal

pub returns : goal.returns
returns c = laid c.args.rest.now _ c.requires (ap (λ z. z ++ drop (length c.args.rest.now) (replicate 136 0)) c.copy_from_slice.ensures.after)
