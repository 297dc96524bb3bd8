-- What a site checks of a reply, and which stop follows where a check fails.
use Rattle.std.specs.Prelude.{◌≡◌, ℕ, zero, suc, ◌+◌, ◌<◌, true, ◌⊎◌, List, [], ◌∷◌, Some, None, Option, slice_index_or}
use Rattle.std.specs.Option.{option_map}
use Rattle.message.specs.Reply.{Listed, Held, Response}
use Rattle.message.specs.Strings.{submit_string, data_string, commit_string, proof_string}
use Rattle.signature.specs.Meaning.{SchemeMeaning}
use Rattle.version.specs.Order.{Slot, AtOrBelow}
use Rattle.rules.specs.declared.stop.Stop.{Stop}
use Rattle.rules.specs.declared.stop.Stop.TheVariants.{CommitSignature, Forked, ProofSignature, OwnEntry, SubmitSignature, OwnerSignature, DataSignature, OwnerVersion, OwnerTimestamp}
use Rattle.rules.specs.Group.{Setup, SiteState, slot, zeros, own, max_timestamp}
use Rattle.rules.specs.Running.{Running, from_reply, rise, result}

-- the proof signature of the site i in a reply
abbrev pub proof_of : List (List ℕ) → ℕ → List ℕ
proof_of proofs zero = []
proof_of proofs (suc k) = slice_index_or proofs k []

-- a version is zero, or signed by the site i
abbrev pub SignedVersion : Setup → SchemeMeaning → ℕ → List Slot → List ℕ → Type 0
SignedVersion p m i v signature = (v ≡ zeros p.size) ⊎ (m.valid i (commit_string v) signature ≡ true)

-- there is no digest, or the site i proved it
abbrev pub Proved : SchemeMeaning → ℕ → Option (List ℕ) → List ℕ → Type 0
Proved m i None signature = Unit {0}
Proved m i (Some d) signature = m.valid i (proof_string d) signature ≡ true

-- the committed version is at or above the site's, which counts the same of its own operations
pub record Follows (s : SiteState) (a : Response) : Type 0 where
  pub above : AtOrBelow s.version a.version
  pub same : own s ≡ (slot a.version s.number).timestamp

-- what is checked of an entry, at the running version
module _ (m : SchemeMeaning) (i : ℕ) (a : Response) (w : Running) (e : Listed) where
  abbrev pub EntryProved : Type 0
  EntryProved = Proved m e.site (slot w.version e.site).digest (proof_of a.proofs e.site)

  abbrev pub EntryOther : Type 0
  EntryOther = e.site ≡ i → ⊥

  pub record EntrySubmitted : Type 0 where
    pub below : (slot w.version e.site).timestamp < max_timestamp
    pub signed : m.valid e.site (submit_string e.code e.register ((slot w.version e.site).timestamp + 1)) e.submit_signature ≡ true

  abbrev pub EntryPasses : Type 0
  EntryPasses = EntryProved × EntryOther × EntrySubmitted

  abbrev pub EntryStops : Stop → Type 0
  EntryStops CommitSignature = ⊥
  EntryStops Forked = ⊥
  EntryStops ProofSignature = EntryProved → ⊥
  EntryStops OwnEntry = EntryProved × (EntryOther → ⊥)
  EntryStops SubmitSignature = EntryProved × EntryOther × (EntrySubmitted → ⊥)
  EntryStops OwnerSignature = ⊥
  EntryStops DataSignature = ⊥
  EntryStops OwnerVersion = ⊥
  EntryStops OwnerTimestamp = ⊥

-- the entries in order, each at the version that those before it made
module _ (H : List ℕ → List ℕ) (m : SchemeMeaning) (i : ℕ) (a : Response) where
  abbrev pub EntriesPass : Running → List Listed → Type 0
  EntriesPass w [] = Unit {0}
  EntriesPass w (e ∷ es) = EntryPasses m i a w e × EntriesPass (rise H w e.site) es

  abbrev pub EntriesStop : Running → List Listed → Stop → Type 0
  EntriesStop w [] stop = ⊥
  EntriesStop w (e ∷ es) stop = EntryStops m i a w e stop ⊎ (EntryPasses m i a w e × EntriesStop (rise H w e.site) es stop)

-- what is checked of the value that a read of the register r found, at the running version v
module _ (p : Setup) (m : SchemeMeaning) (a : Response) (v : List Slot) (r : ℕ) (h : Held) where
  abbrev pub OwnerSigned : Type 0
  OwnerSigned = SignedVersion p m r h.version h.commit_signature

  -- a value without an operation cannot be
  abbrev pub DataSignedAt : ℕ → Type 0
  DataSignedAt zero = h.value ≡ None
  DataSignedAt (suc t) = m.valid r (data_string (suc t) (option_map p.digest h.value)) h.data_signature ≡ true

  abbrev pub DataSigned : Type 0
  DataSigned = DataSignedAt h.timestamp

  pub record OwnerWithin : Type 0 where
    pub below : AtOrBelow h.version a.version
    pub same : h.timestamp ≡ (slot v r).timestamp

  abbrev pub OwnerRecent : Type 0
  OwnerRecent = ((slot h.version r).timestamp ≡ h.timestamp) ⊎ ((slot h.version r).timestamp + 1 ≡ h.timestamp)

  pub record FoundPasses : Type 0 where
    pub owner : OwnerSigned
    pub value : DataSigned
    pub within : OwnerWithin
    pub recent : OwnerRecent

  abbrev pub FoundStops : Stop → Type 0
  FoundStops CommitSignature = ⊥
  FoundStops Forked = ⊥
  FoundStops ProofSignature = ⊥
  FoundStops OwnEntry = ⊥
  FoundStops SubmitSignature = ⊥
  FoundStops OwnerSignature = OwnerSigned → ⊥
  FoundStops DataSignature = OwnerSigned × (DataSigned → ⊥)
  FoundStops OwnerVersion = OwnerSigned × DataSigned × (OwnerWithin → ⊥)
  FoundStops OwnerTimestamp = OwnerSigned × DataSigned × OwnerWithin × (OwnerRecent → ⊥)

-- all that a site checks of a reply to its operation with this code and register
module _ (p : Setup) (m : SchemeMeaning) (s : SiteState) (r : ℕ) (a : Response) where
  abbrev pub CommitSigned : Type 0
  CommitSigned = SignedVersion p m a.committer a.version a.commit_signature

  abbrev pub ListPasses : Type 0
  ListPasses = EntriesPass p.digest m s.number a (from_reply a) a.entries

  abbrev pub ListStops : Stop → Type 0
  ListStops stop = EntriesStop p.digest m s.number a (from_reply a) a.entries stop

  -- only a reply to a read says what was found
  abbrev pub AnswerPasses : Option Held → Type 0
  AnswerPasses None = Unit {0}
  AnswerPasses (Some h) = FoundPasses p m a (result p.digest s.number a).version r h

  abbrev pub AnswerStops : Option Held → Stop → Type 0
  AnswerStops None stop = ⊥
  AnswerStops (Some h) stop = FoundStops p m a (result p.digest s.number a).version r h stop

  pub record Passes : Type 0 where
    pub committed : CommitSigned
    pub follows : Follows s a
    pub list : ListPasses
    pub answer : AnswerPasses a.found

  -- which check fails first
  abbrev pub Fails : Stop → Type 0
  Fails CommitSignature = CommitSigned → ⊥
  Fails Forked = CommitSigned × (Follows s a → ⊥)
  Fails ProofSignature = CommitSigned × Follows s a × ListStops ProofSignature
  Fails OwnEntry = CommitSigned × Follows s a × ListStops OwnEntry
  Fails SubmitSignature = CommitSigned × Follows s a × ListStops SubmitSignature
  Fails OwnerSignature = CommitSigned × Follows s a × ListPasses × AnswerStops a.found OwnerSignature
  Fails DataSignature = CommitSigned × Follows s a × ListPasses × AnswerStops a.found DataSignature
  Fails OwnerVersion = CommitSigned × Follows s a × ListPasses × AnswerStops a.found OwnerVersion
  Fails OwnerTimestamp = CommitSigned × Follows s a × ListPasses × AnswerStops a.found OwnerTimestamp
