-- The number of each refusal.
use Rattle.std.specs.Prelude.{ℕ}
use Rattle.store.specs.declared.fault.Fault.{Fault}
use Rattle.store.specs.declared.fault.Fault.TheVariants.{OutOfRange, TooLong, NoRewriteLeft, BufferTooShort}

abbrev pub numbered : Fault → ℕ
numbered OutOfRange = 1
numbered TooLong = 4
numbered NoRewriteLeft = 10
numbered BufferTooShort = 11
