-- Slots written into a buffer that has room for any.
use Rattle.std.proofs.Common.{◌≡◌, ℕ, ◌+◌, ◌≤◌, List, length, take, drop, Some, None, Ok, Err, Option, Result, sym, refl, arith}
use Rattle.std.specs.Result.{IsOk}
use Rattle.std.proofs.lemmas.List.FromFn.{length-map-range_with_len}
use Rattle.std.proofs.lemmas.List.{length-append, take_at}
use Rattle.std.proofs.lemmas.Bool.{cases_lt}
use Rattle.octets.specs.Field.{Field}
use Rattle.octets.proofs.Numbers.{length-big_endian}
use Rattle.version.specs.declared.version.Version.{Version}
use Rattle.version.specs.Version.{slot_of, slots}
use Rattle.version.proofs.LayoutLaws.{version-length}
use Rattle.message.specs.declared.refusal.Refusal.{Refusal}
use Rattle.message.specs.declared.refusal.Refusal.TheVariants.{OutOfRange, ValueTooLong, BadField, BufferTooShort}
use Rattle.message.specs.Fields.{value}
use Rattle.message.specs.Slots.{StoredValue, value_slot, version_slot}
use Rattle.message.specs.Writes.{TooLong, Writes}

-- what fits is written, and stands in front
pub fits : {A : Type 0} (f : Field A) (m : A) (long : Type 0) (was is : List ℕ) (r : Result ℕ Refusal) → Writes f m long was is r → (long → ⊥) → length (f.put m) ≤ length was → IsOk r
fits f m long was is (Ok end) h short room = refl
fits f m long was is (Err OutOfRange) h short room = absurd h
fits f m long was is (Err ValueTooLong) h short room = absurd (short h.0)
fits f m long was is (Err (BadField offset)) h short room = absurd h
fits f m long was is (Err BufferTooShort) h short room = let k = h.1 in absurd (omega arith)

pub written : {A : Type 0} (f : Field A) (m : A) (long : Type 0) (was is : List ℕ) (r : Result ℕ Refusal) (end : ℕ) → r ≡ Ok end → Writes f m long was is r
    → (end ≡ length (f.put m)) × (take end is ≡ f.put m)
written f m long was is r end e h =
    let w = rw e at h in
    (w.1, rw w.2 (take_at (f.put m) (drop end was) end (sym w.1)))

-- at most 36 bytes for each of eight sites, and two signatures
pub eight_sites : (v : Version) → length (slots v) ≤ 8
unfolding slots
eight_sites v = let k = v.sized.1 in rw (length-map-range_with_len (slot_of v) 0 v.size) k

pub version_slot_size : (n g : ℕ) (v : Version) (commit proof : List ℕ) → length commit ≤ 64 → length proof ≤ 64
    → length ((version_slot n g).put (record { version = slots v; commit_signature = commit; proof_signature = proof })) ≤ 416
version_slot_size n g v commit proof c p =
    let e = eight_sites v in
    let l = version-length v in
    simp length-append (omega arith)

-- a timestamp, a value and a signature
value_size : (v : Option (List ℕ)) → (TooLong v → ⊥) → length (value.put v) ≤ 514
value_size None h = omega arith
value_size (Some v) h = simp length-append (omega (arith, length-big_endian 2 (length v + 1), cases_lt 512 (length v), h))

pub value_slot_size : (g : ℕ) (v : StoredValue) → (TooLong v.value → ⊥) → length v.data_signature ≤ 64 → length ((value_slot g).put v) ≤ 582
value_slot_size g v h s =
    let k = value_size v.value h in
    let t = length-big_endian 4 v.timestamp in
    simp length-append (omega arith)
