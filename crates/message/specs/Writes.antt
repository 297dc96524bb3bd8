-- What a call leaves that writes to the front of a lent buffer.
use Rattle.std.specs.Prelude.{◌≡◌, ℕ, ◌<◌, List, [], ◌∷◌, ◌++◌, length, drop, Some, None, Ok, Err, Option, Result}
use Rattle.std.specs.Borrow.{Bor}
use Rattle.octets.specs.Field.{Field, read}
use Rattle.octets.specs.Puts.{Puts}
use Rattle.message.specs.declared.refusal.Refusal.{Refusal}
use Rattle.message.specs.declared.refusal.Refusal.TheVariants.{OutOfRange, ValueTooLong, BadField as BadAt, BufferTooShort}
use Rattle.message.specs.Fields.{value}

-- the bytes in front, and the old bytes behind them; or no room, and all as it was
abbrev pub Fills : List ℕ → List ℕ → List ℕ → Result ℕ Refusal → Type 0
Fills bs was is (Ok size) = (size ≡ length bs) × (is ≡ bs ++ drop size was)
Fills bs was is (Err e) = (length was < length bs) × (is ≡ was) × (e ≡ BufferTooShort)

-- a value that no field can hold
abbrev pub TooLong : Option (List ℕ) → Type 0
TooLong None = ⊥
TooLong (Some v) = 512 < length v

-- a message in front, which reads back if it has the form of the group's messages; or its value is too long; or no room
abbrev pub Writes : {A : Type 0} → Field A → A → Type 0 → List ℕ → List ℕ → Result ℕ Refusal → Type 0
Writes f m long was is (Ok size) = (long → ⊥) × (size ≡ length (f.put m)) × (is ≡ f.put m ++ drop size was) × (f.Good m → read f (f.put m) ≡ Ok m)
Writes f m long was is (Err OutOfRange) = ⊥
Writes f m long was is (Err ValueTooLong) = long × (is ≡ was)
Writes f m long was is (Err (BadAt offset)) = ⊥
Writes f m long was is (Err BufferTooShort) = (long → ⊥) × (length was < length (f.put m)) × (is ≡ was)

-- what the inner calls answer: parts one behind the other
abbrev pub joined : List (Bor (List ℕ)) → List ℕ
joined [] = []
joined (p ∷ ps) = p.now ++ joined ps

-- where they end; where they do not fit, nothing is said of the bytes
abbrev pub PutsOrShort : List ℕ → List ℕ → List ℕ → Option ℕ → Type 0
PutsOrShort bs was is (Some end) = Puts bs 0 was is end
PutsOrShort bs was is None = length was < length bs

-- and the two parts of a value, its size and its bytes
abbrev pub Valued : Option (List ℕ) → Result (List ℕ × Bor (List ℕ)) Refusal → Type 0
Valued v (Ok p) = (TooLong v → ⊥) × (p.0 ++ p.1.now ≡ value.put v)
Valued v (Err e) = TooLong v × (e ≡ ValueTooLong)
