-- What the inner calls of a finish answer, and what the writing of its commit leaves.
use Rattle.std.specs.Prelude.{◌≡◌, ℕ, ◌+◌, ◌-◌, ◌*◌, ◌≤◌, cond, not, ◌&&◌, List, [], ◌++◌, length, Some, None, Ok, Err, Option, Result, ◌==◌, nat_lt, slice_index}
use Rattle.std.specs.Option.{unwrap_or}
use Rattle.std.specs.Borrow.{Bor}
use Rattle.octets.specs.Numbers.{big_endian}
use Rattle.octets.specs.Puts.{Puts}
use Rattle.message.specs.declared.code.Code.{Code}
use Rattle.message.specs.declared.place.Place.{Place}
use Rattle.message.specs.declared.reply.Found.{Found}
use Rattle.message.specs.declared.reply.Reply.{Reply}
use Rattle.message.specs.Code.{code_number}
use Rattle.message.specs.Reply.{FoundBefore}
use Rattle.message.specs.Strings.{commit_string, proof_string}
use Rattle.rules.specs.declared.refusal.Refusal.{Refusal}
use Rattle.rules.specs.declared.refusal.Refusal.TheVariants.{OutOfRange, OutOfService, OutOfTurn, ValueTooLong, TimestampLimit, TooFewSignatures, BadField, BufferTooShort}
use Rattle.rules.specs.Finish.{Operation, Awaits, FinishRefused, read_reply}
use Rattle.rules.specs.Group.{SiteState, slot}
use Rattle.signature.specs.Calls.{Made}
use Rattle.signature.specs.Meaning.{SchemeMeaning}
use Rattle.version.specs.Layout.{version_field}
use Rattle.version.specs.Order.{Slot}
use Rattle.site.specs.Checking.{WellRead, answered, size_of}
use Rattle.site.specs.State.{setup}

-- where the value stands that was found, in so many bytes that end with a data signature of g
abbrev pub place_before : ℕ → ℕ → Option (Bor (List ℕ)) → Option Place
place_before g size None = None
place_before g size (Some v) = Some (record { offset = size - g - length v.now; length = length v.now })

abbrev pub place_of : ℕ → ℕ → Option Found → Option Place
place_of g size None = None
place_of g size (Some f) = place_before g size f.value

-- a site that has finished an operation has a digest of its own
abbrev pub Told : Option (List ℕ) → Type 0
Told None = ⊥
Told (Some d) = Unit {0}

-- the reply to an operation with the code c in a group of n sites, or the offset of the first field that is bad; whatever the digest
abbrev pub ReadsReply : ℕ → ℕ → Code → List ℕ → Result Reply Refusal → Type 0
ReadsReply n g c bs (Ok m) =
    ((digest : List ℕ → List ℕ) → read_reply (setup n g digest) c bs ≡ Ok (answered g m)) × (size_of m ≡ n) × WellRead g m × FoundBefore g bs m.found
ReadsReply n g c bs (Err OutOfRange) = ⊥
ReadsReply n g c bs (Err OutOfService) = ⊥
ReadsReply n g c bs (Err OutOfTurn) = ⊥
ReadsReply n g c bs (Err ValueTooLong) = ⊥
ReadsReply n g c bs (Err TimestampLimit) = ⊥
ReadsReply n g c bs (Err TooFewSignatures) = ⊥
ReadsReply n g c bs (Err (BadField offset)) = (digest : List ℕ → List ℕ) → read_reply (setup n g digest) c bs ≡ Err offset
ReadsReply n g c bs (Err BufferTooShort) = ⊥

-- where the first bad field begins, if it begins at `offset` in a reply to any operation
abbrev pub offset_for : Code → List ℕ → ℕ → ℕ
offset_for c bs offset = cond (nat_lt 1 offset && not (slice_index bs 1 == code_number c)) 1 offset

-- what is known of a finish that is not refused
pub record Admitted (g : ℕ) (m : SchemeMeaning) (s : SiteState) (t : Operation) (bs : List ℕ) (room : ℕ) (r : ℕ) (a : Reply) : Type 0 where
  pub code : Code
  pub awaits : Awaits s t code r
  pub two : 2 ≤ m.left s.number
  pub reads : ReadsReply (length s.version) g code bs (Ok a)
  pub fits : 2 + 36 * length s.version + 2 * g ≤ room

-- or its refusal, whatever the digest
abbrev pub Admits : ℕ → SchemeMeaning → SiteState → Operation → List ℕ → ℕ → Result (ℕ × Reply) Refusal → Type 0
Admits g m s t bs room (Ok p) = Admitted g m s t bs room p.0 p.1
Admits g m s t bs room (Err e) = (digest : List ℕ → List ℕ) → FinishRefused (setup (length s.version) g digest) m s t bs room e

-- The commit of the site i with the version v, and two signatures that are left open.
pub record Commits (g : ℕ) (m m' : SchemeMeaning) (i : ℕ) (v : List Slot) (was is : List ℕ) (end : ℕ) : Type 0 where
  pub first : List ℕ
  pub second : List ℕ
  pub between : SchemeMeaning
  pub commits : Made g m between i (commit_string v) first
  pub proves : Made g between m' i (proof_string (unwrap_or (slot v i).digest [])) second
  pub written : Puts ((big_endian 1 3 ++ big_endian 1 i) ++ ((version_field (length v)).put v ++ (first ++ second))) 0 was is end
