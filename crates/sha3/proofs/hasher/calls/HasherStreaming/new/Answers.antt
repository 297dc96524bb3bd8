use Rattle.std.proofs.Common.{refl}
use Rattle.digest.specs.Blocks.{absorbed}
use Rattle.sha3.proofs.hasher.calls.HasherStreaming.new.Goals as goal

pub returns : goal.returns
unfolding absorbed
returns c = record { blocks = refl; count = refl; front = refl; wide = refl }
