-- Where the parts of a message stand in its bytes.
use Rattle.std.specs.Prelude.{◌≡◌, ℕ, ◌+◌, ◌^◌, ◌<◌, ◌≤◌, List, ◌++◌, length, drop, Some, None, Option}
use Rattle.octets.specs.Field.{Field}
use Rattle.message.specs.declared.place.Place.{Place}
use Rattle.message.specs.declared.places.CommitPlaces.{CommitPlaces}
use Rattle.message.specs.declared.places.SubmitPlaces.{SubmitPlaces}
use Rattle.message.specs.declared.places.ValueSlotPlaces.{ValueSlotPlaces}
use Rattle.message.specs.declared.places.VersionSlotPlaces.{VersionSlotPlaces}
use Rattle.message.specs.Commit.{Commitment}
use Rattle.message.specs.Places.{part}
use Rattle.message.specs.Slots.{StoredValue, StoredVersion}
use Rattle.message.specs.Submit.{Submission}

-- the part at the place is v, all of it within the bytes
pub record Stands (bs : List ℕ) (p : Place) (v : List ℕ) : Type 0 where
  pub within : p.offset + p.length ≤ length bs
  pub there : part bs p ≡ v

-- a place exactly where there is a value
abbrev pub ValueStands : List ℕ → Option Place → Option (List ℕ) → Type 0
ValueStands bs None None = Unit {0}
ValueStands bs (Some p) (Some v) = Stands bs p v
ValueStands bs None (Some v) = ⊥
ValueStands bs (Some p) None = ⊥

-- a value that is present stands right in front of the last bytes, of which there are so many
abbrev pub StandsBefore : ℕ → List ℕ → Option Place → Type 0
StandsBefore size bs None = Unit {0}
StandsBefore size bs (Some p) = p.offset + p.length + size ≡ length bs

pub record SubmitPlaced (bs : List ℕ) (m : Submission) (p : SubmitPlaces) : Type 0 where
  pub submit_signature : Stands bs p.submit_signature m.submit_signature
  pub value : ValueStands bs p.value m.value
  pub data_signature : Stands bs p.data_signature m.data_signature

pub record CommitPlaced (bs : List ℕ) (m : Commitment) (p : CommitPlaces) : Type 0 where
  pub commit_signature : Stands bs p.commit_signature m.commit_signature
  pub proof_signature : Stands bs p.proof_signature m.proof_signature

pub record ValueSlotPlaced (bs : List ℕ) (m : StoredValue) (p : ValueSlotPlaces) : Type 0 where
  pub value : ValueStands bs p.value m.value
  pub data_signature : Stands bs p.data_signature m.data_signature

pub record VersionSlotPlaced (bs : List ℕ) (m : StoredVersion) (p : VersionSlotPlaces) : Type 0 where
  pub commit_signature : Stands bs p.commit_signature m.commit_signature
  pub proof_signature : Stands bs p.proof_signature m.proof_signature

-- the places are right in the bytes of the message, if these are no more than a buffer can have
abbrev pub Located : {A P : Type 0} → Field A → A → (List ℕ → A → P → Type 0) → P → Type 0
Located f m Placed p = length (f.put m) < 2 ^ 64 → Placed (f.put m) m p

-- what inner calls answer: from a place on the bytes are these
pub record From (bs : List ℕ) (start : ℕ) (rest : List ℕ) : Type 0 where
  pub within : start ≤ length bs
  pub there : drop start bs ≡ rest

-- a part, and a value, whose place ends there
abbrev pub StandsTo : ℕ → List ℕ → Place → List ℕ → Type 0
StandsTo end bs p v = Stands bs p v × (p.offset + p.length ≡ end)

abbrev pub EndsAt : ℕ → Option Place → Type 0
EndsAt end None = Unit {0}
EndsAt end (Some p) = p.offset + p.length ≡ end

abbrev pub ValueStandsTo : ℕ → List ℕ → Option Place → Option (List ℕ) → Type 0
ValueStandsTo end bs p v = ValueStands bs p v × EndsAt end p

-- in bytes that have xs at a place, what is said of them, and where xs ends
abbrev pub Passes : (List ℕ → Type 0) → List ℕ → ℕ → ℕ → Type 0
Passes Said xs start end = (bs rest : List ℕ) → length bs < 2 ^ 64 → From bs start (xs ++ rest) → Said bs × From bs end rest
