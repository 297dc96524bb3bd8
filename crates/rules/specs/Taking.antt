-- The host takes a submit and replies, or takes a commit.
use Rattle.std.specs.Prelude.{◌≡◌, ℕ, ◌+◌, ◌<◌, ◌≤◌, Bool, true, false, cond, ◌&&◌, ◌||◌, List, [], ◌∷◌, ◌++◌, map, length, drop, replicate, Some, None, Ok, Err, Option, Result, ◌==◌, nat_le, nat_lt}
use Rattle.std.specs.Result.{result_unwrap_or}
use Rattle.std.specs.List.{range_with_len}
use Rattle.octets.specs.Field.{read}
use Rattle.message.specs.declared.code.Code.{Code}
use Rattle.message.specs.declared.code.Code.TheVariants.{Read, Write}
use Rattle.message.specs.declared.refusal.Refusal.TheVariants.{BadField}
use Rattle.message.specs.Commit.{Commitment, commit}
use Rattle.message.specs.Reply.{Listed, Held, Response, reply}
use Rattle.message.specs.Slots.{StoredValue, value_slot, StoredVersion, version_slot}
use Rattle.message.specs.Submit.{Submission, submit}
use Rattle.store.specs.Calls.{Replaced}
use Rattle.store.specs.declared.fault.Fault.TheVariants.{NoRewriteLeft}
use Rattle.store.specs.declared.slot.Slot.TheVariants.{Value, Version}
use Rattle.store.specs.Meaning.{StoreMeaning}
use Rattle.version.specs.Order.{Slot}
use Rattle.rules.specs.declared.fault.Fault.{Fault}
use Rattle.rules.specs.declared.fault.Fault.TheVariants.{Message, OutOfOrder, ListFull, Store, BufferTooShort}
use Rattle.rules.specs.Group.{Setup, HostState, slot, zeros}

-- What the slots of the site i say. A slot that does not read counts as timestamp 0, an absent value, the zero version and
-- signatures of zeros.
abbrev pub value_at : Setup → StoreMeaning → ℕ → StoredValue
value_at p m i =
    result_unwrap_or (read (value_slot p.signature) (m.slot Value i)) (record { timestamp = 0; value = None; data_signature = replicate p.signature 0 })

abbrev pub version_at : Setup → StoreMeaning → ℕ → StoredVersion
version_at p m i =
    result_unwrap_or (read (version_slot p.size p.signature) (m.slot Version i))
    (record { version = zeros p.size; commit_signature = replicate p.signature 0; proof_signature = replicate p.signature 0 })

abbrev pub own_at : Setup → StoreMeaning → ℕ → ℕ
own_at p m i = (slot (version_at p m i).version i).timestamp

-- a submit is the next operation of its site, whose last one is committed
pub record NextSubmit (p : Setup) (m : StoreMeaning) (a : Submission) : Type 0 where
  pub next : a.timestamp ≡ (value_at p m a.site).timestamp + 1
  pub done : (value_at p m a.site).timestamp ≡ own_at p m a.site

-- a read keeps the value, a write replaces it
abbrev pub value_with : Code → Option (List ℕ) → Option (List ℕ) → Option (List ℕ)
value_with Read new old = old
value_with Write new old = new

-- what the value slot says after a submit
abbrev pub stored : Setup → StoreMeaning → Submission → StoredValue
stored p m a =
    record {
      timestamp = a.timestamp;
      value = value_with a.code a.value (value_at p m a.site).value;
      data_signature = a.data_signature;
    }

abbrev pub entry_of : Submission → Listed
entry_of a = record { site = a.site; code = a.code; register = a.register; submit_signature = a.submit_signature }

-- and what the value slot of any site says then
abbrev pub value_after : Setup → StoreMeaning → Submission → ℕ → StoredValue
value_after p m a i = cond (a.site == i) (stored p m a) (value_at p m i)

abbrev pub held : StoredVersion → StoredValue → Held
held w v =
    record {
      version = w.version;
      commit_signature = w.commit_signature;
      timestamp = v.timestamp;
      value = v.value;
      data_signature = v.data_signature;
    }

-- for a read, what the slots of the register say after the submit
abbrev pub found_at : Setup → StoreMeaning → Submission → Code → Option Held
found_at p m a Read = Some (held (version_at p m a.register) (value_after p m a a.register))
found_at p m a Write = None

-- the reply to a submit: the committer, its version, the list as it was, all proof signatures, and what was found
abbrev pub replied : Setup → HostState → StoreMeaning → Submission → Response
replied p h m a =
    record {
      code = a.code;
      committer = h.committer;
      version = (version_at p m h.committer).version;
      commit_signature = (version_at p m h.committer).commit_signature;
      entries = h.list;
      proofs = map (λ i. (version_at p m i).proof_signature) (range_with_len 1 p.size);
      found = found_at p m a a.code;
    }

-- a submit that was taken, and its reply
pub record Exchange : Type 0 where
  pub submission : Submission
  pub response : Response

pub record TookSubmit (p : Setup) (h h' : HostState) (m m' : StoreMeaning) (bs was is : List ℕ) (x : Exchange) : Type 0 where
  pub reads : read (submit p.size p.signature) bs ≡ Ok x.submission
  pub next : NextSubmit p m x.submission
  pub free : length h.list < p.size
  pub left : 0 < m.left
  pub entered : Replaced m Value x.submission.site ((value_slot p.signature).put (stored p m x.submission)) m'
  pub answer : x.response ≡ replied p h m x.submission
  pub room : length ((reply p.size p.signature).put x.response) ≤ length was
  pub after : h' ≡ record { committer = h.committer; list = h.list ++ (entry_of x.submission ∷ []) }
  pub out : is ≡ (reply p.size p.signature).put x.response ++ drop (length ((reply p.size p.signature).put x.response)) was

-- Which fault a submit with room for so many bytes meets.
abbrev pub SubmitRefused : Setup → HostState → StoreMeaning → List ℕ → ℕ → Fault → Type 0
SubmitRefused p h m bs room (Message e) = (offset : ℕ) × (read (submit p.size p.signature) bs ≡ Err offset) × (e ≡ BadField offset)
SubmitRefused p h m bs room OutOfOrder = (a : Submission) × (read (submit p.size p.signature) bs ≡ Ok a) × (NextSubmit p m a → ⊥)
SubmitRefused p h m bs room ListFull = (a : Submission) × (read (submit p.size p.signature) bs ≡ Ok a) × NextSubmit p m a × (p.size ≤ length h.list)
SubmitRefused p h m bs room (Store e) =
    (a : Submission) × (read (submit p.size p.signature) bs ≡ Ok a) × NextSubmit p m a × (length h.list < p.size) × (m.left ≡ 0) × (e ≡ NoRewriteLeft)
SubmitRefused p h m bs room BufferTooShort =
    (a : Submission) × (read (submit p.size p.signature) bs ≡ Ok a) × NextSubmit p m a × (length h.list < p.size) × (0 < m.left)
    × (room < length ((reply p.size p.signature).put (replied p h m a)))

-- a submit taken with a buffer for the reply: the reply in front and the old bytes behind it; or a fault, and all as it was
abbrev pub TakesSubmit : Setup → HostState → HostState → StoreMeaning → StoreMeaning → List ℕ → List ℕ → List ℕ → Result Exchange Fault → Type 0
TakesSubmit p h h' m m' bs was is (Ok x) = TookSubmit p h h' m m' bs was is x
TakesSubmit p h h' m m' bs was is (Err e) = SubmitRefused p h m bs (length was) e × (h' ≡ h) × (m' ≡ m) × (is ≡ was)

-- a commit is that of its site's last submit, and not committed yet
pub record NextCommit (p : Setup) (m : StoreMeaning) (c : Commitment) : Type 0 where
  pub last : (slot c.version c.site).timestamp ≡ (value_at p m c.site).timestamp
  pub new : (slot c.version c.site).timestamp ≡ own_at p m c.site → ⊥

-- the timestamps of v are nowhere below those of w, and somewhere above
abbrev pub nowhere_below : List Slot → List Slot → Bool
nowhere_below [] w = true
nowhere_below (a ∷ v) [] = true
nowhere_below (a ∷ v) (b ∷ w) = nat_le b.timestamp a.timestamp && nowhere_below v w

abbrev pub somewhere_above : List Slot → List Slot → Bool
somewhere_above [] w = false
somewhere_above (a ∷ v) [] = false
somewhere_above (a ∷ v) (b ∷ w) = nat_lt b.timestamp a.timestamp || somewhere_above v w

abbrev pub leads : List Slot → List Slot → Bool
leads v w = nowhere_below v w && somewhere_above v w

-- the list without the last entry of the site i and all before it, or as it is
abbrev pub has : ℕ → List Listed → Bool
has i [] = false
has i (e ∷ es) = e.site == i || has i es

abbrev pub after_last : ℕ → List Listed → List Listed
after_last i [] = []
after_last i (e ∷ es) = cond (has i es) (after_last i es) (cond (e.site == i) es (e ∷ es))

-- a commit that leads makes its site the committer
abbrev pub committed : Setup → HostState → StoreMeaning → Commitment → HostState
committed p h m c =
    cond (leads c.version (version_at p m h.committer).version)
    (record { committer = c.site; list = after_last c.site h.list }) h

abbrev pub version_stored : Commitment → StoredVersion
version_stored c = record { version = c.version; commit_signature = c.commit_signature; proof_signature = c.proof_signature }

pub record TookCommit (p : Setup) (h h' : HostState) (m m' : StoreMeaning) (bs : List ℕ) (c : Commitment) : Type 0 where
  pub reads : read (commit p.size p.signature) bs ≡ Ok c
  pub next : NextCommit p m c
  pub left : 0 < m.left
  pub entered : Replaced m Version c.site ((version_slot p.size p.signature).put (version_stored c)) m'
  pub after : h' ≡ committed p h m c

abbrev pub CommitRefused : Setup → StoreMeaning → List ℕ → Fault → Type 0
CommitRefused p m bs (Message e) = (offset : ℕ) × (read (commit p.size p.signature) bs ≡ Err offset) × (e ≡ BadField offset)
CommitRefused p m bs OutOfOrder = (c : Commitment) × (read (commit p.size p.signature) bs ≡ Ok c) × (NextCommit p m c → ⊥)
CommitRefused p m bs ListFull = ⊥
CommitRefused p m bs (Store e) =
    (c : Commitment) × (read (commit p.size p.signature) bs ≡ Ok c) × NextCommit p m c × (m.left ≡ 0) × (e ≡ NoRewriteLeft)
CommitRefused p m bs BufferTooShort = ⊥

abbrev pub TakesCommit : Setup → HostState → HostState → StoreMeaning → StoreMeaning → List ℕ → Result Commitment Fault → Type 0
TakesCommit p h h' m m' bs (Ok c) = TookCommit p h h' m m' bs c
TakesCommit p h h' m m' bs (Err e) = CommitRefused p m bs e × (h' ≡ h) × (m' ≡ m)
