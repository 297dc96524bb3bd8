-- What a call answers that reads a whole message.
use Rattle.std.specs.Prelude.{◌≡◌, ℕ, ◌-◌, ◌<◌, List, length, Ok, Err, Result}
use Rattle.std.specs.Borrow.{Bor}
use Rattle.octets.specs.declared.BadField.{BadField}
use Rattle.octets.specs.Field.{Field, read}
use Rattle.version.specs.declared.version.Version.{Version}
use Rattle.version.specs.Shape.{Size}
use Rattle.version.specs.Version.{slots}
use Rattle.message.specs.declared.refusal.Refusal.{Refusal}
use Rattle.message.specs.declared.refusal.Refusal.TheVariants.{OutOfRange, ValueTooLong, BadField as BadAt, BufferTooShort}

-- the message that the bytes are, which is written as these bytes; or no group has n sites, or the offset of the first bad,
-- incomplete or surplus field
abbrev pub Reads : {M A : Type 0} → ℕ → Field A → (M → A) → List ℕ → Result M Refusal → Type 0
Reads n f of bs (Ok m) = Size n × (read f bs ≡ Ok (of m)) × (f.put (of m) ≡ bs)
Reads n f of bs (Err OutOfRange) = Size n → ⊥
Reads n f of bs (Err ValueTooLong) = ⊥
Reads n f of bs (Err (BadAt offset)) = Size n × (read f bs ≡ Err offset)
Reads n f of bs (Err BufferTooShort) = ⊥

-- the same of bytes whose layout does not depend on the group's size
abbrev pub ReadsAny : {M A : Type 0} → Field A → (M → A) → List ℕ → Result M Refusal → Type 0
ReadsAny f of bs (Ok m) = (read f bs ≡ Ok (of m)) × (f.put (of m) ≡ bs)
ReadsAny f of bs (Err OutOfRange) = ⊥
ReadsAny f of bs (Err ValueTooLong) = ⊥
ReadsAny f of bs (Err (BadAt offset)) = read f bs ≡ Err offset
ReadsAny f of bs (Err BufferTooShort) = ⊥

-- what its inner calls answer: the zero version of the group
abbrev pub Sized : ℕ → Result Version Refusal → Type 0
Sized n (Ok z) = Size n × (length (slots z) ≡ n)
Sized n (Err e) = (Size n → ⊥) × (e ≡ OutOfRange)

-- and a message behind whose fields nothing is left
abbrev pub Ended : {M : Type 0} → List ℕ → Result (M × Bor (List ℕ)) BadField → Result M Refusal → Type 0
Ended bs (Ok p) (Ok m) = (length p.1.now ≡ 0) × (m ≡ p.0)
Ended bs (Ok p) (Err e) = (0 < length p.1.now) × (e ≡ BadAt (length bs - length p.1.now))
Ended bs (Err b) (Ok m) = ⊥
Ended bs (Err b) (Err e) = e ≡ BadAt (length bs - b.left)
