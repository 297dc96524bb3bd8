-- What is left of taking a submit once its checks have passed.
use Rattle.std.specs.Prelude.{◌≡◌, ℕ, ◌<◌, ◌≤◌, List, [], ◌∷◌, ◌++◌, length, drop, Ok, Err, Result}
use Rattle.message.specs.Reply.{Response, reply}
use Rattle.message.specs.Slots.{StoredValue, value_slot}
use Rattle.message.specs.Submit.{Submission}
use Rattle.store.specs.declared.slot.Slot.TheVariants.{Value}
use Rattle.store.specs.Calls.{Replaced}
use Rattle.store.specs.Meaning.{StoreMeaning}
use Rattle.rules.specs.declared.fault.Fault.{Fault}
use Rattle.rules.specs.declared.fault.Fault.TheVariants.{BufferTooShort}
use Rattle.rules.specs.Group.{HostState}
use Rattle.rules.specs.Taking.{entry_of}
use Rattle.host.specs.Replies.{reply_to}
use Rattle.host.specs.Says.{stored_with, value_of}

-- what the value slot of its site says then, and the reply
abbrev pub value_then : ℕ → StoreMeaning → Submission → StoredValue
value_then g m a = stored_with a (value_of g m a.site).value

abbrev pub reply_then : ℕ → ℕ → HostState → StoreMeaning → Submission → Response
reply_then n g h m a = reply_to n g h m a.code a.site a.register (value_then g m a)

abbrev pub reply_bytes : ℕ → ℕ → HostState → StoreMeaning → Submission → List ℕ
reply_bytes n g h m a = (reply n g).put (reply_then n g h m a)

pub record Entered (n g : ℕ) (h h' : HostState) (m m' : StoreMeaning) (a : Submission) (was is : List ℕ) (size : ℕ) : Type 0 where
  pub slot : Replaced m Value a.site ((value_slot g).put (value_then g m a)) m'
  pub sized : size ≡ length (reply_bytes n g h m a)
  pub room : length (reply_bytes n g h m a) ≤ length was
  pub out : is ≡ reply_bytes n g h m a ++ drop (length (reply_bytes n g h m a)) was
  pub after : h' ≡ record { committer = h.committer; list = h.list ++ (entry_of a ∷ []) }

-- or there is no room for the reply, and all is as it was
abbrev pub Enters : ℕ → ℕ → HostState → HostState → StoreMeaning → StoreMeaning → Submission → List ℕ → List ℕ → Result ℕ Fault → Type 0
Enters n g h h' m m' a was is (Ok size) = Entered n g h h' m m' a was is size
Enters n g h h' m m' a was is (Err e) = (e ≡ BufferTooShort) × (length was < length (reply_bytes n g h m a)) × (h' ≡ h) × (m' ≡ m) × (is ≡ was)
