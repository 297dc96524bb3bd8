use Rattle.std.proofs.Common.{refl}
use Rattle.digest.specs.Blocks.{absorbed}
use Rattle.sha256.specs.Compression.{Constants, added, compressed, next_of, one_round, rounds, schedule, words}
use Rattle.sha256.specs.Sha256.{output, padding, sha256}
use Rattle.sha256.specs.Words.{Ch, Maj, Σ0, Σ1, σ0, σ1}
use Rattle.hmac.specs.Hmac.{xored, hmac_sha256}
use Rattle.hmac.proofs.published.Goals as goal

-- by computing
pub returns : goal.returns
unfolding absorbed Ch Maj Σ0 Σ1 σ0 σ1 Constants added compressed next_of one_round rounds schedule words output padding sha256 xored hmac_sha256
returns c = record { short_key = refl; long_key = refl }
