-- What is kept of a key.
use Rattle.std.specs.Prelude.{ℕ, List}
use Rattle.sha256.specs.Stream.{After}
use Rattle.hmac.specs.declared.pads.Pads.{Pads}
use Rattle.hmac.specs.Hmac.{key_block, xored, ipad, opad}

-- both blocks of a key are absorbed
pub record Absorbed (p : Pads) (key : List ℕ) : Type 0 where
  pub inside : After p.inner (xored ipad (key_block key))
  pub outside : After p.outer (xored opad (key_block key))
