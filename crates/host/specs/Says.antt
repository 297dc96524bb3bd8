-- What the bytes of a slot say. A slot that does not read counts as timestamp 0, an absent value, the zero version and
-- signatures of zeros.
use Rattle.std.specs.Prelude.{◌≡◌, ℕ, ◌+◌, List, length, replicate, None, Option, ◌≢◌}
use Rattle.std.specs.Result.{result_unwrap_or}
use Rattle.octets.specs.Field.{read}
use Rattle.message.specs.Slots.{StoredValue, value_slot, StoredVersion, version_slot}
use Rattle.message.specs.Submit.{Submission}
use Rattle.message.specs.Writes.{TooLong}
use Rattle.store.specs.Meaning.{StoreMeaning}
use Rattle.store.specs.declared.slot.Slot.TheVariants.{Value, Version}
use Rattle.rules.specs.Group.{slot, zeros}
use Rattle.rules.specs.Taking.{value_with}

abbrev pub value_in : ℕ → List ℕ → StoredValue
value_in g bs = result_unwrap_or (read (value_slot g) bs) (record { timestamp = 0; value = None; data_signature = replicate g 0 })

abbrev pub version_in : ℕ → ℕ → List ℕ → StoredVersion
version_in n g bs =
    result_unwrap_or (read (version_slot n g) bs) (record { version = zeros n; commit_signature = replicate g 0; proof_signature = replicate g 0 })

-- so they always have the form of the group's
pub record FormedValue (g : ℕ) (v : StoredValue) : Type 0 where
  pub short : TooLong v.value → ⊥
  pub signed : length v.data_signature ≡ g

pub record FormedVersion (n g : ℕ) (w : StoredVersion) : Type 0 where
  pub sized : length w.version ≡ n
  pub signed : length w.commit_signature ≡ g
  pub proved : length w.proof_signature ≡ g

-- what the slots of the site i say
abbrev pub value_of : ℕ → StoreMeaning → ℕ → StoredValue
value_of g m i = value_in g (m.slot Value i)

abbrev pub version_of : ℕ → ℕ → StoreMeaning → ℕ → StoredVersion
version_of n g m i = version_in n g (m.slot Version i)

abbrev pub own_of : ℕ → ℕ → StoreMeaning → ℕ → ℕ
own_of n g m i = (slot (version_of n g m i).version i).timestamp

-- what the value slot says after a submit, where it said `old` of the value
abbrev pub stored_with : Submission → Option (List ℕ) → StoredValue
stored_with a old = record { timestamp = a.timestamp; value = value_with a.code a.value old; data_signature = a.data_signature }

-- the operation of the site i with the timestamp t is the next to be submitted, as the last one is committed
abbrev pub NextSubmitEnters : ℕ → ℕ → StoreMeaning → ℕ → ℕ → Type 0
NextSubmitEnters n g m i t = (t ≡ (value_of g m i).timestamp + 1) × ((value_of g m i).timestamp ≡ own_of n g m i)

-- it is the last one submitted, and not committed yet
abbrev pub NextCommitEnters : ℕ → ℕ → StoreMeaning → ℕ → ℕ → Type 0
NextCommitEnters n g m i t = (t ≡ (value_of g m i).timestamp) × (t ≢ own_of n g m i)
