use Rattle.std.proofs.Common.{◌≡◌, ◌++◌, map, take, drop}
use lib.Bits.{bit_xor}
use Rattle.hmac.proofs.block.xored.Given as goal

abbrev pub invariant-loop-b : goal.invariant-loop-b
invariant-loop-b l = l.b-items ≡ map (λ x. bit_xor x l.byte) (take l.b-index l.initial.b-items) ++ drop l.b-index l.initial.b-items
