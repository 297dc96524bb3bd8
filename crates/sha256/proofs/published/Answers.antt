use Rattle.std.proofs.Common.{◌≡◌, ℕ, ◌+◌, ◌-◌, ◌*◌, ◌%◌, ◌^◌, length, replicate, refl, arith, length-append}
use Rattle.std.proofs.lemmas.List.{length-replicate}
use Rattle.digest.specs.Blocks.{absorbed}
use Rattle.sha256.specs.Compression.{Constants, added, compressed, next_of, one_round, rounds, schedule, words}
use Rattle.sha256.specs.Sha256.{bytes64, output, padding, sha256}
use Rattle.sha256.specs.Words.{Ch, Maj, Σ0, Σ1, σ0, σ1}
use Rattle.sha256.proofs.published.Goals as goal

fills : (n : ℕ) → (n + length (padding n)) % 64 ≡ 0
unfolding padding
fills n =
    let z : ℕ = (119 - n % 64) % 64 in
    let l = length-append (replicate z 0) (bytes64 ((n * 8) % 2 ^ 64)) in
    let r : length (replicate {A = ℕ} z 0) ≡ z = length-replicate z 0 in
    omega arith

-- by computing
pub returns : goal.returns
unfolding absorbed Ch Maj Σ0 Σ1 σ0 σ1 Constants added compressed next_of one_round rounds schedule words output padding sha256
returns c = record { fills = fills; one_block = refl; two_blocks = refl }
