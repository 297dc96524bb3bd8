-- The number of each refusal.
use Rattle.std.specs.Prelude.{ℕ}
use Rattle.signature.specs.declared.refusal.Refusal.{Refusal}
use Rattle.signature.specs.declared.refusal.Refusal.TheVariants.{OutOfRange, TextTooLong, NoneLeft, BufferTooShort}

abbrev pub numbered : Refusal → ℕ
numbered OutOfRange = 1
numbered TextTooLong = 4
numbered NoneLeft = 6
numbered BufferTooShort = 11
