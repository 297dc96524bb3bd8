-- What an operation does, and its number in bytes.
use Rattle.std.specs.Prelude.{◌≡◌, ℕ, Bool, true, false, Ok, Err, Result, ◌≢◌}
use Rattle.message.specs.declared.code.Code.{Code}
use Rattle.message.specs.declared.code.UnknownCode.{UnknownCode}
use Rattle.message.specs.declared.code.Code.TheVariants.{Read, Write}

abbrev pub code_number : Code → ℕ
code_number Read = 1
code_number Write = 2

abbrev pub is_read : Code → Bool
is_read Read = true
is_read Write = false

-- the code that a byte stands for, or that byte if it stands for none
abbrev pub Decodes : ℕ → Result Code UnknownCode → Type 0
Decodes b (Ok c) = code_number c ≡ b
Decodes b (Err e) = (e.0 ≡ b) × ((c : Code) → code_number c ≢ b)
