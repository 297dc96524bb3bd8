use Rattle.std.proofs.Common.{◌≡◌, ℕ, ◌+◌, ◌%◌, length, refl, arith}
use Rattle.digest.specs.Blocks.{absorbed}
use Rattle.sha3.specs.Keccak.{RC, Rnd, rounds, θ, ρ, π, χ}
use Rattle.sha3.specs.Sha3.{lane_of, padding, sha3_256, squeezed, step, xored}
use Rattle.sha3.proofs.Padding.{padding-length}
use Rattle.sha3.proofs.published.Goals as goal

fills : (n : ℕ) → (n + length (padding n)) % 136 ≡ 0
fills n = omega (arith, padding-length n)

-- the digests by computing
pub returns : goal.returns
unfolding absorbed RC Rnd rounds θ ρ π χ lane_of padding sha3_256 squeezed step xored
returns c = record { fills = fills; no_bytes = refl; one_block = refl; two_blocks = refl }
