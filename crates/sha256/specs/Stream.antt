-- a message that comes in pieces
use Rattle.std.specs.Prelude.{◌≡◌, ℕ, ◌%◌, ◌^◌, List, length}
use Rattle.digest.specs.Blocks.{Holds}
use Rattle.sha256.specs.Compression.{compressed}
use Rattle.sha256.specs.Sha256.{Initial}
use Rattle.sha256.specs.declared.hasher.Hasher.{Hasher}
use Rattle.sha256.specs.declared.midstate.Midstate.{Midstate}

-- h was given the bytes bs, and counts them modulo 2 ^ 64
pub record Took (h : Hasher) (bs : List ℕ) : Type 0 where
  pub holds : Holds compressed 64 Initial h.state h.block (h.len % 64) bs
  pub count : h.len ≡ length bs % 2 ^ 64

-- m is the hash value after one block
pub record After (m : Midstate) (block : List ℕ) : Type 0 where
  pub wide : length block ≡ 64
  pub state : m.state ≡ compressed Initial block
