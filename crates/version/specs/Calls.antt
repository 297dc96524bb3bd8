-- What each call answers and changes.
use Rattle.std.specs.Prelude.{◌≡◌, ℕ, ◌+◌, ◌-◌, ◌*◌, ◌<◌, ◌≤◌, List, ◌++◌, length, drop, replicate, Some, Ok, Err, Option, Result, ◌≢◌, slice_set}
use Rattle.octets.specs.Field.{read}
use Rattle.version.specs.declared.order.Order.{Order}
use Rattle.version.specs.declared.refusal.Refusal.{Refusal}
use Rattle.version.specs.declared.refusal.Refusal.TheVariants.{OutOfRange, TimestampLimit, BadField as BadAt, BufferTooShort}
use Rattle.version.specs.declared.version.Version.{Version}
use Rattle.version.specs.Layout.{version_field}
use Rattle.version.specs.Order.{Slot, slot_with, unseen, slot_at, AtOrBelow, Stands}
use Rattle.version.specs.Shape.{Size}
use Rattle.version.specs.Version.{slots}

-- the zero version of a group of n sites
abbrev pub Zero : ℕ → Result Version Refusal → Type 0
Zero n (Ok v) = Size n × (slots v ≡ replicate n unseen)
Zero n (Err e) = (Size n → ⊥) × (e ≡ OutOfRange)

-- i is a site of v's group
abbrev pub Site : Version → ℕ → Type 0
Site v i = (1 ≤ i) × (i ≤ length (slots v))

-- what v says of the site i
abbrev pub slot : Version → ℕ → Slot
slot v i = slot_at (slots v) (i - 1)

-- where its slot stands
abbrev pub Placed : Version → ℕ → Result ℕ Refusal → Type 0
Placed v i (Ok k) = Site v i × (k ≡ i - 1) × (k < 8)
Placed v i (Err e) = (Site v i → ⊥) × (e ≡ OutOfRange)

abbrev pub Timestamp : Version → ℕ → Result ℕ Refusal → Type 0
Timestamp v i (Ok t) = Site v i × (t ≡ (slot v i).timestamp)
Timestamp v i (Err e) = (Site v i → ⊥) × (e ≡ OutOfRange)

abbrev pub Digest : Version → ℕ → Result (Option (List ℕ)) Refusal → Type 0
Digest v i (Ok d) = Site v i × (d ≡ (slot v i).digest)
Digest v i (Err e) = (Site v i → ⊥) × (e ≡ OutOfRange)

-- v becomes v': the site i gains 1 and the digest d, and nothing else changes
abbrev pub Raises : Version → ℕ → List ℕ → Version → Result (Unit {0}) Refusal → Type 0
Raises v i d v' (Ok _) = Site v i × ((slot v i).timestamp < 4294967295) × (slots v' ≡ slice_set (slots v) (i - 1) (slot_with ((slot v i).timestamp + 1) (Some d)))
Raises v i d v' (Err OutOfRange) = (Site v i → ⊥) × (v' ≡ v)
Raises v i d v' (Err TimestampLimit) = Site v i × ((slot v i).timestamp ≡ 4294967295) × (v' ≡ v)
Raises v i d v' (Err (BadAt offset)) = ⊥
Raises v i d v' (Err BufferTooShort) = ⊥

abbrev pub Compares : Version → Version → Result Order Refusal → Type 0
Compares u v (Ok o) = (length (slots u) ≡ length (slots v)) × Stands AtOrBelow (slots u) (slots v) o
Compares u v (Err e) = (length (slots u) ≢ length (slots v)) × (e ≡ OutOfRange)

-- bytes that are to be a version of a group of n sites; those that are one are what it is written as
abbrev pub Reads : ℕ → List ℕ → Result Version Refusal → Type 0
Reads n bs (Ok v) = Size n × (length (slots v) ≡ n) × (read (version_field n) bs ≡ Ok (slots v)) × ((version_field n).put (slots v) ≡ bs)
Reads n bs (Err OutOfRange) = Size n → ⊥
Reads n bs (Err TimestampLimit) = ⊥
Reads n bs (Err (BadAt offset)) = Size n × (read (version_field n) bs ≡ Err offset)
Reads n bs (Err BufferTooShort) = ⊥

-- the bytes of a version
abbrev pub bytes_of : Version → List ℕ
bytes_of v = (version_field (length (slots v))).put (slots v)

-- the version in front, which reads back, and the old bytes behind it; or no room, and all as it was
abbrev pub Writes : Version → List ℕ → List ℕ → Result ℕ Refusal → Type 0
Writes v was is (Ok end) =
    (end ≡ 36 * length (slots v)) × (length (bytes_of v) ≡ end) × (is ≡ bytes_of v ++ drop end was) × (read (version_field (length (slots v))) (bytes_of v) ≡ Ok (slots v))
Writes v was is (Err e) = (length was < 36 * length (slots v)) × (is ≡ was) × (e ≡ BufferTooShort)
