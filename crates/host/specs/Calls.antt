-- What each call of a host answers and changes.
use Rattle.std.specs.Prelude.{◌≡◌, ℕ, List, length, Ok, Err, Result}
use Rattle.message.specs.Commit.{Commitment}
use Rattle.message.specs.Reply.{reply}
use Rattle.store.specs.Meaning.{StoreMeaning}
use Rattle.version.specs.Shape.{Size}
use Rattle.rules.specs.declared.fault.Fault.{Fault}
use Rattle.rules.specs.declared.refusal.Refusal.TheVariants.{OutOfRange}
use Rattle.rules.specs.Group.{Setup, HostState, new_host}
use Rattle.rules.specs.Taking.{Exchange, TakesCommit, TakesSubmit}
use Rattle.host.specs.declared.host.Host.{Host}
use Rattle.host.specs.declared.start.Unstarted.{Unstarted}
use Rattle.host.specs.Shape.{Signature}
use Rattle.host.specs.State.{host_state, host_setup}

-- a new host over the store s; or a size or a signature's length is out of range, and the store comes back
abbrev pub Starts : {T : Type 0} → ℕ → ℕ → T → Result (Host T) (Unstarted T) → Type 0
Starts n g s (Ok h) = Size n × Signature g × (h.size ≡ n) × (h.signature ≡ g) × (h.store ≡ s) × (host_state h ≡ new_host)
Starts n g s (Err e) = (Size n × Signature g → ⊥) × (e.store ≡ s) × (e.refusal ≡ OutOfRange)

-- no call changes how many sites the group has, and how many bytes a signature has
pub record SameGroup {T : Type 0} (h h' : Host T) : Type 0 where
  pub size : h'.size ≡ h.size
  pub signature : h'.signature ≡ h.signature

-- some commit is taken, or there is a fault
abbrev pub CommitTaken : Setup → HostState → HostState → StoreMeaning → StoreMeaning → List ℕ → Result (Unit {0}) Fault → Type 0
CommitTaken p h h' m m' bs (Ok _) = (c : Commitment) × TakesCommit p h h' m m' bs (Ok c)
CommitTaken p h h' m m' bs (Err e) = TakesCommit p h h' m m' bs (Err e)

-- a host over a store by its meaning, with any digest
abbrev pub TakesCommitOver : {T : Type 0} → (T → StoreMeaning) → Host T → Host T → List ℕ → Result (Unit {0}) Fault → Type 0
TakesCommitOver means h h' bs r =
    (H : List ℕ → List ℕ) → CommitTaken (host_setup H h) (host_state h) (host_state h') (means h.store) (means h'.store) bs r

-- some submit is taken, and the answer is how many bytes the reply has; or there is a fault
abbrev pub SubmitTaken : Setup → HostState → HostState → StoreMeaning → StoreMeaning → List ℕ → List ℕ → List ℕ → Result ℕ Fault → Type 0
SubmitTaken p h h' m m' bs was is (Ok size) =
    (x : Exchange) × TakesSubmit p h h' m m' bs was is (Ok x) × (size ≡ length ((reply p.size p.signature).put x.response))
SubmitTaken p h h' m m' bs was is (Err e) = TakesSubmit p h h' m m' bs was is (Err e)

abbrev pub TakesSubmitOver : {T : Type 0} → (T → StoreMeaning) → Host T → Host T → List ℕ → List ℕ → List ℕ → Result ℕ Fault → Type 0
TakesSubmitOver means h h' bs was is r =
    (H : List ℕ → List ℕ) → SubmitTaken (host_setup H h) (host_state h) (host_state h') (means h.store) (means h'.store) bs was is r
