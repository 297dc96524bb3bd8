use Rattle.std.proofs.Common.{◌≡◌, ◌*◌, take}
use Rattle.hex_text.specs.Hex.{digits}
use Rattle.hex_text.proofs.put_digits.Given as goal

abbrev pub invariant-loop-k : goal.invariant-loop-k
invariant-loop-k l = take (2 * l.k) l.room ≡ digits (take l.k l.bytes)
