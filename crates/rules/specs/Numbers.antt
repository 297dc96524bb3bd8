-- The number of each refusal, stop and fault.
use Rattle.std.specs.Prelude.{ℕ}
use Rattle.message.specs.Refusals.{numbered as message-number}
use Rattle.store.specs.Faults.{numbered as store-number}
use Rattle.rules.specs.declared.fault.Fault.{Fault}
use Rattle.rules.specs.declared.fault.Fault.TheVariants.{Message, OutOfOrder, ListFull, Store, BufferTooShort as NoRoom}
use Rattle.rules.specs.declared.refusal.Refusal.{Refusal}
use Rattle.rules.specs.declared.refusal.Refusal.TheVariants.{OutOfRange, OutOfService, OutOfTurn, ValueTooLong, TimestampLimit, TooFewSignatures, BadField, BufferTooShort}
use Rattle.rules.specs.declared.stop.Stop.{Stop}
use Rattle.rules.specs.declared.stop.Stop.TheVariants.{CommitSignature, Forked, ProofSignature, OwnEntry, SubmitSignature, OwnerSignature, DataSignature, OwnerVersion, OwnerTimestamp}

abbrev pub refusal_number : Refusal → ℕ
refusal_number OutOfRange = 1
refusal_number OutOfService = 2
refusal_number OutOfTurn = 3
refusal_number ValueTooLong = 4
refusal_number TimestampLimit = 5
refusal_number TooFewSignatures = 6
refusal_number (BadField offset) = 7
refusal_number BufferTooShort = 11

-- a reader's refusal and a store's fault keep their numbers
abbrev pub fault_number : Fault → ℕ
fault_number (Message e) = message-number e
fault_number OutOfOrder = 8
fault_number ListFull = 9
fault_number (Store e) = store-number e
fault_number NoRoom = 11

abbrev pub stop_number : Stop → ℕ
stop_number CommitSignature = 21
stop_number Forked = 22
stop_number ProofSignature = 23
stop_number OwnEntry = 24
stop_number SubmitSignature = 25
stop_number OwnerSignature = 26
stop_number DataSignature = 27
stop_number OwnerVersion = 28
stop_number OwnerTimestamp = 29
