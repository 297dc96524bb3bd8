-- The state that a host of the code stands for.
use Rattle.std.specs.Prelude.{ℕ, List, map}
use Rattle.message.specs.Replied.{entered}
use Rattle.message.specs.Reply.{Listed}
use Rattle.message.specs.Slots.{StoredValue, StoredVersion}
use Rattle.store.specs.Meaning.{StoreMeaning}
use Rattle.rules.specs.Group.{Setup, HostState}
use Rattle.host.specs.declared.host.Host.{Host}
use Rattle.host.specs.Says.{own_of, value_of, version_of}

module _ {T : Type 0} where
  -- a signature counts with as many bytes as the host was given for it
  abbrev pub list_of : Host T → List Listed
  list_of h = map (entered h.signature) h.list.items

  abbrev pub host_state : Host T → HostState
  host_state h = record { committer = h.committer; list = list_of h }

  -- with any digest, for the host uses none
  abbrev pub host_setup : (List ℕ → List ℕ) → Host T → Setup
  host_setup H h = record { size = h.size; signature = h.signature; digest = H }

  -- what the slots of the site i say in its store, by what a store means
  module _ (means : T → StoreMeaning) (h : Host T) where
    abbrev pub value_said : ℕ → StoredValue
    value_said i = value_of h.signature (means h.store) i

    abbrev pub version_said : ℕ → StoredVersion
    version_said i = version_of h.size h.signature (means h.store) i

    -- and what its version slot says of itself
    abbrev pub own_said : ℕ → ℕ
    own_said i = own_of h.size h.signature (means h.store) i
