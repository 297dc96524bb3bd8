-- What the calls answer that check a reply.
use Rattle.std.specs.Prelude.{◌≡◌, ℕ, zero, suc, true, ◌⊎◌, List, length, None, Ok, Err, Option, Result}
use Rattle.std.specs.Option.{option_map}
use Rattle.message.specs.declared.reply.Reply.{Reply}
use Rattle.message.specs.Reply.{Listed, Held, Response, reply, response}
use Rattle.message.specs.Strings.{commit_string, data_string}
use Rattle.rules.specs.declared.phase.Phase.{Phase}
use Rattle.rules.specs.declared.stop.Stop.{Stop}
use Rattle.rules.specs.Checks.{EntryPasses, EntryStops, EntriesPass, EntriesStop, FoundPasses, FoundStops, Passes, Fails}
use Rattle.rules.specs.Group.{Setup, SiteState, zeros}
use Rattle.rules.specs.Running.{Running as Walk, rise_all, result}
use Rattle.signature.specs.Meaning.{SchemeMeaning}
use Rattle.version.specs.Order.{Slot}
use Rattle.version.specs.Version.{slots}
use Rattle.site.specs.declared.running.Running.{Running}
use Rattle.site.specs.Running.{running}

-- how many sites a reply's version speaks of, and the reply of such a group that it stands for
abbrev pub size_of : Reply → ℕ
size_of m = length (slots m.version)

abbrev pub answered : ℕ → Reply → Response
answered g m = response g (size_of m) m

-- every reply that was read has the form of its group's replies
abbrev pub WellRead : ℕ → Reply → Type 0
WellRead g m = (reply (size_of m) g).Good (answered g m)

-- a version is zero, or signed by the site i
abbrev pub ZeroOrSigned : SchemeMeaning → ℕ → List Slot → List ℕ → Type 0
ZeroOrSigned m i v signature = (v ≡ zeros (length v)) ⊎ (m.valid i (commit_string v) signature ≡ true)

-- a value with this timestamp: there is none at 0, and above it the site i signed it
abbrev pub ValueSigned : (List ℕ → List ℕ) → SchemeMeaning → ℕ → Held → ℕ → Type 0
ValueSigned H m i h zero = h.value ≡ None
ValueSigned H m i h (suc t) = m.valid i (data_string (suc t) (option_map H h.value)) h.data_signature ≡ true

-- an entry passes, or which check of it fails
abbrev pub EntryAnswer : SchemeMeaning → ℕ → Response → Walk → Listed → Result (Unit {0}) Stop → Type 0
EntryAnswer m i a w e (Ok _) = EntryPasses m i a w e
EntryAnswer m i a w e (Err stop) = EntryStops m i a w e stop

-- the entries pass and make this version of w, or which check of them fails first
module _ (H : List ℕ → List ℕ) (m : SchemeMeaning) (i : ℕ) (a : Response) where
  abbrev pub EntriesAnswer : Walk → List Listed → Result Running Stop → Type 0
  EntriesAnswer w es (Ok w') = EntriesPass H m i a w es × (running w' ≡ rise_all H w es)
  EntriesAnswer w es (Err stop) = EntriesStop H m i a w es stop

-- what was found passes, or which check of it fails first
abbrev pub FoundAnswer : Setup → SchemeMeaning → Response → List Slot → ℕ → Held → Result (Unit {0}) Stop → Type 0
FoundAnswer p m a v r h (Ok _) = FoundPasses p m a v r h
FoundAnswer p m a v r h (Err stop) = FoundStops p m a v r h stop

abbrev pub site_with : ℕ → List Slot → Option (List ℕ) → Phase → SiteState
site_with i v last phase = record { number = i; version = v; last = last; phase = phase }

-- The reply passes, and w is what the site i makes of it; or which check fails first. Of the site only its version v is looked at.
abbrev pub Verifies : Setup → SchemeMeaning → ℕ → List Slot → ℕ → Response → Result Running Stop → Type 0
Verifies p m i v r a (Ok w) = ((last : Option (List ℕ)) (phase : Phase) → Passes p m (site_with i v last phase) r a) × (running w ≡ result p.digest i a)
Verifies p m i v r a (Err stop) = (last : Option (List ℕ)) (phase : Phase) → Fails p m (site_with i v last phase) r a stop
