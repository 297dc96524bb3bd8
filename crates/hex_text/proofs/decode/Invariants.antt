use Rattle.std.proofs.Common.{◌≡◌, ◌*◌, take, vec_items}
use Rattle.hex_text.specs.Hex.{digits}
use Rattle.hex_text.proofs.decode.Given as goal

abbrev pub invariant-loop-high : goal.invariant-loop-high
invariant-loop-high l = digits (vec_items l.bytes) ≡ take (2 * l.high-index) l.fn.text
