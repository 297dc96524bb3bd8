-- Finishing an operation by the host's reply, and abandoning it.
use Rattle.std.specs.Prelude.{◌≡◌, ℕ, ◌+◌, ◌*◌, ◌<◌, ◌≤◌, cond, not, ◌&&◌, List, [], ◌++◌, length, drop, Some, None, Ok, Err, Option, Result, ◌==◌, nat_lt, slice_index}
use Rattle.std.specs.Option.{unwrap_or}
use Rattle.octets.specs.Field.{read}
use Rattle.message.specs.declared.code.Code.{Code}
use Rattle.message.specs.declared.place.Place.{Place}
use Rattle.message.specs.Code.{code_number}
use Rattle.message.specs.Commit.{Commitment, commit}
use Rattle.message.specs.Reply.{Held, Response, reply}
use Rattle.message.specs.Strings.{commit_string, proof_string}
use Rattle.signature.specs.Calls.{Made}
use Rattle.signature.specs.Meaning.{SchemeMeaning}
use Rattle.rules.specs.declared.phase.Phase.{Phase}
use Rattle.rules.specs.declared.phase.Phase.TheVariants.{Idle, Waiting, Stopped, Retired}
use Rattle.rules.specs.declared.refusal.Refusal.{Refusal}
use Rattle.rules.specs.declared.refusal.Refusal.TheVariants.{OutOfRange, OutOfService, OutOfTurn, ValueTooLong, TimestampLimit, TooFewSignatures, BadField, BufferTooShort}
use Rattle.rules.specs.declared.stop.Stop.{Stop}
use Rattle.rules.specs.Group.{Setup, SiteState, own}
use Rattle.rules.specs.Begin.{Ended}
use Rattle.rules.specs.Running.{result}
use Rattle.rules.specs.Checks.{Passes, Fails}

-- an operation is named by its site and its timestamp, and so is its ticket
pub record Operation : Type 0 where
  pub site : ℕ
  pub timestamp : ℕ

-- the site waits for this operation, with this code and register
pub record Awaits (s : SiteState) (t : Operation) (c : Code) (r : ℕ) : Type 0 where
  pub phase : s.phase ≡ Waiting c r
  pub site : t.site ≡ s.number
  pub timestamp : t.timestamp ≡ own s + 1

abbrev pub Awaited : SiteState → Operation → Type 0
Awaited s t = (c : Code) × (r : ℕ) × Awaits s t c r

-- The reply that the bytes are: another code than that of the waiting operation makes the code a bad field, which begins at 1.
abbrev pub expecting : Code → List ℕ → Result Response ℕ → Result Response ℕ
expecting c bs (Ok a) = cond (code_number a.code == code_number c) (Ok a) (Err 1)
expecting c bs (Err offset) = cond (nat_lt 1 offset && not (slice_index bs 1 == code_number c)) (Err 1) (Err offset)

abbrev pub read_reply : Setup → Code → List ℕ → Result Response ℕ
read_reply p c bs = expecting c bs (read (reply p.size p.signature) bs)

-- the bytes of the commit
abbrev pub commit_size : Setup → ℕ
commit_size p = 2 + 36 * p.size + 2 * p.signature

-- Which refusal a finish with room for so many bytes meets.
abbrev pub FinishRefused : Setup → SchemeMeaning → SiteState → Operation → List ℕ → ℕ → Refusal → Type 0
FinishRefused p m s t bs room OutOfRange = ⊥
FinishRefused p m s t bs room OutOfService = Ended s.phase
FinishRefused p m s t bs room OutOfTurn = (Ended s.phase → ⊥) × (Awaited s t → ⊥)
FinishRefused p m s t bs room ValueTooLong = ⊥
FinishRefused p m s t bs room TimestampLimit = ⊥
FinishRefused p m s t bs room TooFewSignatures = Awaited s t × (m.left s.number < 2)
FinishRefused p m s t bs room (BadField offset) =
    (c : Code) × (r : ℕ) × Awaits s t c r × (2 ≤ m.left s.number) × (read_reply p c bs ≡ Err offset)
FinishRefused p m s t bs room BufferTooShort =
    (c : Code) × (r : ℕ) × (a : Response) × Awaits s t c r × (2 ≤ m.left s.number) × (read_reply p c bs ≡ Ok a) × (room < commit_size p)

-- where the value that was found stands in the reply: in front of the data signature, which ends it
abbrev pub PlacedValue : ℕ → List ℕ → Option (List ℕ) → Option Place → Type 0
PlacedValue g bs None None = Unit {0}
PlacedValue g bs None (Some place) = ⊥
PlacedValue g bs (Some v) None = ⊥
PlacedValue g bs (Some v) (Some place) = (place.length ≡ length v) × (place.offset + place.length + g ≡ length bs)

abbrev pub Placed : ℕ → List ℕ → Option Held → Option Place → Type 0
Placed g bs None place = place ≡ None
Placed g bs (Some h) place = PlacedValue g bs h.value place

-- what an accepted finish was about: the operation's code and register, the reply, the commit that is written, and where the value stands
pub record Completion : Type 0 where
  pub code : Code
  pub register : ℕ
  pub reply : Response
  pub commit : Commitment
  pub place : Option Place

-- the site has a new version and is idle
abbrev pub completed : Setup → SiteState → Response → SiteState
completed p s a = record { number = s.number; version = (result p.digest s.number a).version; last = s.last; phase = Idle }

abbrev pub in_phase : SiteState → Phase → SiteState
in_phase s phase = record { number = s.number; version = s.version; last = s.last; phase = phase }

-- The commit that is written, but for its two signatures, which are left open: they are valid from then on.
pub record Finished (p : Setup) (m m' : SchemeMeaning) (s s' : SiteState) (t : Operation) (bs was is : List ℕ) (d : Completion) : Type 0 where
  pub awaits : Awaits s t d.code d.register
  pub two : 2 ≤ m.left s.number
  pub reads : read_reply p d.code bs ≡ Ok d.reply
  pub room : commit_size p ≤ length was
  pub passes : Passes p m s d.register d.reply
  pub site : d.commit.site ≡ s.number
  pub version : d.commit.version ≡ (result p.digest s.number d.reply).version
  pub between : SchemeMeaning
  pub commits : Made p.signature m between s.number (commit_string d.commit.version) d.commit.commit_signature
  pub proves :
      Made p.signature between m' s.number (proof_string (unwrap_or (result p.digest s.number d.reply).digest [])) d.commit.proof_signature
  pub place : Placed p.signature bs d.reply.found d.place
  pub after : s' ≡ completed p s d.reply
  pub out : is ≡ (commit p.size p.signature).put d.commit ++ drop (commit_size p) was

pub data Outcome : Type 0 where
  finished : Completion → Outcome
  refused : Refusal → Outcome
  stopped : Stop → Outcome

-- a check fails: the site stops, and nothing else changes
pub record StoppedBy (p : Setup) (m : SchemeMeaning) (s s' : SiteState) (t : Operation) (bs was : List ℕ) (stop : Stop) : Type 0 where
  pub code : Code
  pub register : ℕ
  pub answer : Response
  pub awaits : Awaits s t code register
  pub two : 2 ≤ m.left s.number
  pub reads : read_reply p code bs ≡ Ok answer
  pub room : commit_size p ≤ length was
  pub fails : Fails p m s register answer stop
  pub after : s' ≡ in_phase s Stopped

-- a finish of the operation t by the reply bs: the commit in front of the buffer; or a refusal, and all as it was; or a stop
abbrev pub Finishes :
    Setup → SchemeMeaning → SchemeMeaning → SiteState → SiteState → Operation → List ℕ → List ℕ → List ℕ → Outcome → Type 0
Finishes p m m' s s' t bs was is (finished d) = Finished p m m' s s' t bs was is d
Finishes p m m' s s' t bs was is (refused e) = FinishRefused p m s t bs (length was) e × (m' ≡ m) × (s' ≡ s) × (is ≡ was)
Finishes p m m' s s' t bs was is (stopped stop) = StoppedBy p m s s' t bs was stop × (m' ≡ m) × (is ≡ was)

-- abandoning an operation retires its site for good
abbrev pub Abandons : SiteState → SiteState → Operation → Result (Unit {0}) Refusal → Type 0
Abandons s s' t (Ok _) = Awaited s t × (s' ≡ in_phase s Retired)
Abandons s s' t (Err OutOfRange) = ⊥
Abandons s s' t (Err OutOfService) = Ended s.phase × (s' ≡ s)
Abandons s s' t (Err OutOfTurn) = (Ended s.phase → ⊥) × (Awaited s t → ⊥) × (s' ≡ s)
Abandons s s' t (Err ValueTooLong) = ⊥
Abandons s s' t (Err TimestampLimit) = ⊥
Abandons s s' t (Err TooFewSignatures) = ⊥
Abandons s s' t (Err (BadField offset)) = ⊥
Abandons s s' t (Err BufferTooShort) = ⊥
