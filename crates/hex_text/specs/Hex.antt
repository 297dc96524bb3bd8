-- Bytes in text: two lower-case hexadecimal digits a byte, the high one first, and a full stop for no bytes.
use Rattle.std.specs.Prelude.{◌≡◌, ℕ, ◌+◌, ◌/◌, ◌%◌, ◌<◌, cond, List, [], ◌∷◌, Some, None, Ok, Err, vec_items, Option, Result, Vec, ◌≢◌, nat_lt}
use Rattle.std.specs.declared.alloc.AllocError.{AllocError}
use Rattle.std.specs.declared.alloc.Global.{Global}
use Rattle.octets.specs.Numbers.{Bytes}

-- the digit of a number below 16: 0 to 9, a to f
unfoldable pub digit : ℕ → ℕ
digit n = cond (nat_lt n 10) (48 + n) (87 + n)

abbrev pub digits : List ℕ → List ℕ
digits [] = []
digits (b ∷ bs) = digit (b / 16) ∷ digit (b % 16) ∷ digits bs

abbrev pub text_of : List ℕ → List ℕ
text_of [] = 46 ∷ []
text_of (b ∷ bs) = digits (b ∷ bs)

-- what a digit stands for
abbrev pub Value : ℕ → Option ℕ → Type 0
Value c (Some n) = (n < 16) × (digit n ≡ c)
Value c None = (n : ℕ) → n < 16 → digit n ≢ c

-- the byte that two digits spell
abbrev pub Spelled : ℕ → ℕ → Option ℕ → Type 0
Spelled high low (Some b) = (b < 256) × (digit (b / 16) ≡ high) × (digit (b % 16) ≡ low)
Spelled high low None = (b : ℕ) → b < 256 → digit (b / 16) ≡ high → digit (b % 16) ≢ low

-- the bytes that a text spells, or none where it spells none; want of memory is an error
abbrev pub Decodes : List ℕ → Result (Option (Vec ℕ Global)) AllocError → Type 0
Decodes text (Ok (Some v)) = text_of (vec_items v) ≡ text
Decodes text (Ok None) = (bs : List ℕ) → Bytes bs → text_of bs ≢ text
Decodes text (Err e) = Unit {0}
