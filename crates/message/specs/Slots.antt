-- The two slots that a host's store keeps for each site.
use Rattle.std.specs.Prelude.{ℕ, List, Option}
use Rattle.std.specs.Option.{option_map}
use Rattle.octets.specs.Field.{Field, numeral, span, ◌then◌, shaped}
use Rattle.version.specs.Layout.{version_field}
use Rattle.version.specs.Order.{Slot}
use Rattle.version.specs.Version.{slots}
use Rattle.message.specs.declared.slot.ValueSlot.{ValueSlot}
use Rattle.message.specs.declared.slot.VersionSlot.{VersionSlot}
use Rattle.message.specs.Fields.{value}

-- timestamp, value, data signature
pub record StoredValue : Type 0 where
  pub timestamp : ℕ
  pub value : Option (List ℕ)
  pub data_signature : List ℕ

abbrev pub value_slot : ℕ → Field StoredValue
value_slot g =
    shaped (λ p. record { timestamp = p.0; value = p.1.0; data_signature = p.1.1 }) (λ m. (m.timestamp, (m.value, m.data_signature)))
    (numeral 4 then λ _. value then λ _. span g)

-- version, commit signature, proof signature
pub record StoredVersion : Type 0 where
  pub version : List Slot
  pub commit_signature : List ℕ
  pub proof_signature : List ℕ

abbrev pub version_slot : ℕ → ℕ → Field StoredVersion
version_slot n g =
    shaped (λ p. record { version = p.0; commit_signature = p.1.0; proof_signature = p.1.1 }) (λ m. (m.version, (m.commit_signature, m.proof_signature)))
    (version_field n then λ _. span g then λ _. span g)

-- what those of the code stand for
abbrev pub value_stored : ValueSlot → StoredValue
value_stored m = record { timestamp = m.timestamp; value = option_map (λ x. x.now) m.value; data_signature = m.data_signature.now }

abbrev pub version_stored : VersionSlot → StoredVersion
version_stored m =
    record { version = slots m.version; commit_signature = m.commit_signature.now; proof_signature = m.proof_signature.now }
