use Rattle.std.proofs.Common.{refl}
use Rattle.digest.specs.Blocks.{absorbed}
use Rattle.sha256.proofs.hasher.HasherStreaming.new.Goals as goal

pub returns : goal.returns
unfolding absorbed
returns c = record { holds = record { blocks = refl; count = refl; front = refl; wide = refl }; count = refl }
