-- A reply from its parts.
use Rattle.std.proofs.Common.{◌≡◌, ℕ, ◌≤◌, min, List, map, length, take, Some, None, Ok, Err, Option, Result, refl}
use Rattle.std.specs.Option.{option_map}
use native.Mathlib.Nat.{min-eq_left}
use Rattle.std.specs.List.{range_with_len}
use Rattle.std.proofs.lemmas.List.{take_all}
use Rattle.octets.specs.Field.{Field}
use Rattle.message.specs.declared.code.Code.{Code}
use Rattle.message.specs.declared.code.Code.TheVariants.{Read, Write}
use Rattle.message.specs.declared.refusal.Refusal.{Refusal}
use Rattle.message.specs.declared.refusal.Refusal.TheVariants.{OutOfRange, ValueTooLong, BadField, BufferTooShort}
use Rattle.message.specs.declared.reply.Found.{Found}
use Rattle.message.specs.declared.reply_parts.ListEntry.{ListEntry}
use Rattle.message.specs.Replied.{FoundTooLong, entered}
use Rattle.message.specs.Reply.{asked, held, reply, signatures}
use Rattle.message.specs.Slots.{StoredValue}
use Rattle.version.specs.Order.{Slot}
use Rattle.message.specs.Writes.{Writes}
use Rattle.store.specs.Meaning.{StoreMeaning}
use Rattle.host.specs.Replies.{found_by, reply_to}
use Rattle.host.specs.Says.{version_of}

-- a value that is not too long
not_long : {A : Type 0} (f : Field A) (m : A) (long : Type 0) (was is : List ℕ) (r : Result ℕ Refusal) → (long → ⊥) → Writes f m long was is r → Writes f m ⊥ was is r
not_long f m long was is (Ok size) short h = ((λ z. z), h.1, h.2, h.3)
not_long f m long was is (Err OutOfRange) short h = h
not_long f m long was is (Err ValueTooLong) short h = absurd (short h.0)
not_long f m long was is (Err (BadField offset)) short h = h
not_long f m long was is (Err BufferTooShort) short h = ((λ z. z), h.1, h.2)

-- a read is answered with what was found
asked_for : (n g s i : ℕ) (m : StoreMeaning) (v : StoredValue) (c : Code) (o : Option Found) → option_map held o ≡ found_by n g m c s i v → asked o ≡ c
asked_for n g s i m v Read (Some f) e = refl
asked_for n g s i m v Read None e = absurd (cc)
asked_for n g s i m v Write (Some f) e = absurd (cc)
asked_for n g s i m v Write None e = refl

-- at most eight entries, and signatures of at most 64 bytes
pub replies : (n g committer : ℕ) (list : List ListEntry) (m : StoreMeaning) (c : Code) (s i : ℕ) (v : StoredValue) (version : List Slot) (signature proofs : List ℕ) (entries : List ListEntry) (o : Option Found)
    (was is : List ℕ) (r : Result ℕ Refusal)
    → g ≤ 64 → entries ≡ list → length list ≤ 8 → length version ≡ n → version ≡ (version_of n g m committer).version → signature ≡ (version_of n g m committer).commit_signature
    → signatures g proofs n 0 ≡ map (λ j. (version_of n g m j).proof_signature) (range_with_len 1 n)
    → option_map held o ≡ found_by n g m c s i v → (FoundTooLong o → ⊥)
    → Writes (reply (length version) g)
    (record {
      code = asked o;
      committer = committer;
      version = version;
      commit_signature = signature;
      entries = map (entered (min g 64)) (take 8 entries);
      proofs = signatures g proofs (length version) 0;
      found = option_map held o;
    })
    (FoundTooLong o) was is r
    → Writes (reply n g) (reply_to n g (record { committer = committer; list = map (entered g) list }) m c s i v) ⊥ was is r
replies n g committer list m c s i v version signature proofs entries o was is r few here eight sized leader signed all found short h =
    not_long (reply n g) (reply_to n g (record { committer = committer; list = map (entered g) list }) m c s i v) (FoundTooLong o) was is r short
    (rw (sized, min-eq_left few, here, take_all 8 list eight, leader, signed, all, asked_for n g s i m v c o found, found) at h)
