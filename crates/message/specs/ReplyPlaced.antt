-- Where the parts of a reply stand in its bytes.
use Rattle.std.specs.Prelude.{◌≡◌, ℕ, ◌^◌, ◌<◌, List, [], map, length, Some, None, Option, slice_index_or}
use Rattle.std.specs.Option.{option_map}
use Rattle.octets.specs.Field.{put_all, span}
use Rattle.message.specs.declared.place.Place.{Place}
use Rattle.message.specs.declared.reply.Found.{Found}
use Rattle.message.specs.declared.reply_places.FoundPlaces.{FoundPlaces}
use Rattle.message.specs.declared.reply_places.ReplyPlaces.{ReplyPlaces}
use Rattle.message.specs.Placed.{Stands, ValueStands, StandsBefore, From}
use Rattle.message.specs.Reply.{Held, Listed, Response, asked, found, held, signatures}

abbrev pub no_place : Place
no_place = record { offset = 0; length = 0 }

-- the signature of each entry, at the place of its number
abbrev pub EntriesStand : List ℕ → List Place → List Listed → Type 0
EntriesStand bs ps es =
    (k : ℕ) → k < length es → Stands bs (slice_index_or ps k no_place) (slice_index_or (map (λ e. e.submit_signature) es) k [])

-- what was found, whose data signature ends the bytes and has the value right in front of it
pub record FoundPlaced (bs : List ℕ) (h : Held) (p : FoundPlaces) : Type 0 where
  pub commit_signature : Stands bs p.commit_signature h.commit_signature
  pub value : ValueStands bs p.value h.value
  pub data_signature : Stands bs p.data_signature h.data_signature
  pub before : StandsBefore (length h.data_signature) bs p.value

-- places exactly where something was found
abbrev pub FoundStands : List ℕ → Option FoundPlaces → Option Held → Type 0
FoundStands bs None None = Unit {0}
FoundStands bs (Some p) (Some h) = FoundPlaced bs h p
FoundStands bs None (Some h) = ⊥
FoundStands bs (Some p) None = ⊥

-- in a group of n sites, with signatures of g bytes; the proof signatures stand one behind the other
pub record ReplyPlaced (n g : ℕ) (bs : List ℕ) (m : Response) (p : ReplyPlaces) : Type 0 where
  pub commit_signature : Stands bs p.commit_signature m.commit_signature
  pub entries : EntriesStand bs p.entries m.entries
  pub proofs : Stands bs p.proofs (put_all (span g) m.proofs)
  pub each_proof : signatures g bs n p.proofs.offset ≡ m.proofs
  pub found : FoundStands bs p.found m.found

-- what an inner call answers: what was found ends the bytes
abbrev pub PassesFound : Option Found → ℕ → Option FoundPlaces → Type 0
PassesFound o start p =
    (n g : ℕ) (bs : List ℕ) → length bs < 2 ^ 64 → From bs start ((found n g (asked o)).put (option_map held o)) → FoundStands bs p (option_map held o)
