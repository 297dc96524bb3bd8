-- A register group by its meanings.
use Rattle.std.specs.Prelude.{◌≡◌, ℕ, zero, suc, ◌≤◌, true, List, [], length, replicate, None, Option, slice_set}
use Rattle.message.specs.Reply.{Listed}
use Rattle.signature.specs.Limits.{max_signature}
use Rattle.signature.specs.Meaning.{SchemeMeaning, Fits}
use Rattle.store.specs.Meaning.{StoreMeaning, Sound}
use Rattle.version.specs.Order.{Slot, unseen, slot_at}
use Rattle.version.specs.Shape.{Size}
use Rattle.rules.specs.declared.phase.Phase.{Phase}
use Rattle.rules.specs.declared.phase.Phase.TheVariants.{Idle}

-- a timestamp has 32 bits, and a value at most so many bytes
abbrev pub max_timestamp : ℕ
max_timestamp = 4294967295

abbrev pub max_value : ℕ
max_value = 512

-- what a group keeps from its start on: how many sites it has, how many bytes a signature has, and its digest
pub record Setup : Type 0 where
  pub size : ℕ
  pub signature : ℕ
  pub digest : List ℕ → List ℕ

-- a site: its version, the digest of the value that it wrote last, and where it stands between its calls
pub record SiteState : Type 0 where
  pub number : ℕ
  pub version : List Slot
  pub last : Option (List ℕ)
  pub phase : Phase

-- the host: the site whose commit leads, and the submits that are not below that commit, oldest first
pub record HostState : Type 0 where
  pub committer : ℕ
  pub list : List Listed

-- what the calls of a group read and change
pub record GroupState : Type 0 where
  pub scheme : SchemeMeaning
  pub store : StoreMeaning
  pub host : HostState
  pub sites : ℕ → SiteState

-- i is a site, and so a register, of a group of n sites
abbrev pub Member : ℕ → ℕ → Type 0
Member n i = (1 ≤ i) × (i ≤ n)

-- what a version says of the site i; sites are numbered from 1
abbrev pub slot : List Slot → ℕ → Slot
slot v zero = unseen
slot v (suc k) = slot_at v k

-- the version with another slot for the site i
abbrev pub with_slot : List Slot → ℕ → Slot → List Slot
with_slot v zero s = v
with_slot v (suc k) s = slice_set v k s

abbrev pub zeros : ℕ → List Slot
zeros n = replicate n unseen

-- a site's own timestamp: how many operations it has finished
abbrev pub own : SiteState → ℕ
own s = (slot s.version s.number).timestamp

-- a group: what it keeps, and how it starts
pub record Group : Type 0 where
  pub setup : Setup
  pub start : GroupState

pub record SetUp (p : Setup) : Type 0 where
  pub size : Size p.size
  pub some : 1 ≤ p.signature
  pub few : p.signature ≤ max_signature
  pub wide : (bs : List ℕ) → length (p.digest bs) ≡ 32

-- the scheme and the store keep what every scheme and every store keeps
pub record SoundParts (p : Setup) (x : GroupState) : Type 0 where
  pub fits : (site : ℕ) (text signature : List ℕ) → x.scheme.valid site text signature ≡ true → Fits p.signature site text signature
  pub sound : Sound x.store

abbrev pub new_site : ℕ → ℕ → SiteState
new_site n i = record { number = i; version = zeros n; last = None; phase = Idle }

abbrev pub new_host : HostState
new_host = record { committer = 1; list = [] }

-- a group as it is started: scheme and store in any state of their meanings
pub record Started (G : Group) : Type 0 where
  pub set_up : SetUp G.setup
  pub parts : SoundParts G.setup G.start
  pub host : G.start.host ≡ new_host
  pub sites : (i : ℕ) → G.start.sites i ≡ new_site G.setup.size i
