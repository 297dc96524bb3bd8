-- The number of each refusal.
use Rattle.std.specs.Prelude.{ℕ}
use Rattle.message.specs.declared.refusal.Refusal.{Refusal}
use Rattle.message.specs.declared.refusal.Refusal.TheVariants.{OutOfRange, ValueTooLong, BadField, BufferTooShort}

abbrev pub numbered : Refusal → ℕ
numbered OutOfRange = 1
numbered ValueTooLong = 4
numbered (BadField offset) = 7
numbered BufferTooShort = 11
