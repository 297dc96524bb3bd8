-- a message that comes in pieces
use Rattle.std.specs.Prelude.{ℕ, List}
use Rattle.digest.specs.Blocks.{Holds}
use Rattle.sha3.specs.declared.hasher.Hasher.{Hasher}
use Rattle.sha3.specs.Sha3.{rate, step, zeros}

-- h was given the bytes bs
abbrev pub Took : Hasher → List ℕ → Type 0
Took h bs = Holds step rate zeros h.state h.buffer h.used bs
