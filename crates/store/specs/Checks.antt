-- What the checks answer that stores make before they read or write.
use Rattle.std.specs.Prelude.{◌≡◌, ℕ, ◌<◌, ◌≤◌, Ok, Err, Result}
use Rattle.store.specs.declared.fault.Fault.{Fault}
use Rattle.store.specs.declared.fault.Fault.TheVariants.{OutOfRange, TooLong, NoRewriteLeft, BufferTooShort}
use Rattle.store.specs.Calls.{Site}
use Rattle.store.specs.Limits.{max_slot}

abbrev pub ChecksSite : ℕ → Result (Unit {0}) Fault → Type 0
ChecksSite i (Ok _) = Site i
ChecksSite i (Err e) = (Site i → ⊥) × (e ≡ OutOfRange)

-- a write of so many bytes for the site i, with so many rewrites left
abbrev pub ChecksWrite : ℕ → ℕ → ℕ → Result (Unit {0}) Fault → Type 0
ChecksWrite i size left (Ok _) = Site i × (size ≤ max_slot) × (0 < left)
ChecksWrite i size left (Err OutOfRange) = Site i → ⊥
ChecksWrite i size left (Err TooLong) = Site i × (max_slot < size)
ChecksWrite i size left (Err NoRewriteLeft) = Site i × (size ≤ max_slot) × (left ≡ 0)
ChecksWrite i size left (Err BufferTooShort) = ⊥
