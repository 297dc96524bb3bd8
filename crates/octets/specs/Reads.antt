-- What a call answers that reads a field.
use Rattle.std.specs.Prelude.{◌≡◌, ℕ, List, Ok, Err, Result}
use Rattle.std.specs.Borrow.{Bor}
use Rattle.octets.specs.declared.BadField.{BadField}
use Rattle.octets.specs.Field.{Field, good, bad}

-- the value and the bytes behind it, as the field gets them; `of` gives what the code's value stands for
abbrev pub Gets : {X A : Type 0} → Field A → (X → A) → List ℕ → Result (X × Bor (List ℕ)) BadField → Type 0
Gets f of bs (Ok p) = f.get bs ≡ good (of p.0) p.1.now
Gets f of bs (Err e) = f.get bs ≡ bad e.left
