-- The number of each refusal.
use Rattle.std.specs.Prelude.{ℕ}
use Rattle.version.specs.declared.refusal.Refusal.{Refusal}
use Rattle.version.specs.declared.refusal.Refusal.TheVariants.{OutOfRange, TimestampLimit, BadField, BufferTooShort}

abbrev pub numbered : Refusal → ℕ
numbered OutOfRange = 1
numbered TimestampLimit = 5
numbered (BadField offset) = 7
numbered BufferTooShort = 11
