-- The fields of messages, in a group of n sites.
use Rattle.std.specs.Prelude.{ℕ, zero, suc, ◌+◌, ◌-◌, cond, not, ◌&&◌, ◌||◌, leb, List, [], length, is_some, Some, None, Option, ◌==◌, nat_eq, nat_le}
use Rattle.octets.specs.Field.{Field, numeral, span, only, joint, shaped, ◌then◌}
use Rattle.message.specs.declared.code.Code.{Code}
use Rattle.message.specs.declared.code.Code.TheVariants.{Read, Write}
use Rattle.message.specs.Code.{code_number, is_read}

-- a byte that is always the same: the kind of a message
abbrev pub kind : ℕ → Field (Unit {0})
kind k = shaped (λ _. tt) (λ _. k) (only (λ b. nat_eq b k) (numeral 1))

abbrev pub site : ℕ → Field ℕ
site n = only (λ b. nat_le 1 b && nat_le b n) (numeral 1)

abbrev pub code : Field Code
code = shaped (λ b. cond (b == 1) Read Write) code_number (only (λ b. (b == 1) || b == 2) (numeral 1))

-- the register of an operation of the site s: a site writes only its own
abbrev pub register : ℕ → ℕ → Code → Field ℕ
register n s c = only (λ b. (nat_le 1 b && nat_le b n) && (is_read c || b == s)) (numeral 1)

-- A value: a number of two bytes, 0 for absent or else the length plus 1, at most 513, and then the bytes.
abbrev pub sized_value : ℕ × List ℕ → Option (List ℕ)
sized_value (zero, v) = None
sized_value (suc size, v) = Some v

abbrev pub value_sized : Option (List ℕ) → ℕ × List ℕ
value_sized None = (0, [])
value_sized (Some v) = (length v + 1, v)

abbrev pub value : Field (Option (List ℕ))
value = joint (shaped sized_value value_sized (only (λ size. leb size 513) (numeral 2) then λ size. span (size - 1)))

-- present exactly in a write
abbrev pub written : Code → Field (Option (List ℕ))
written c = only (λ v. cond (is_read c) (not (is_some v)) (is_some v)) value
