-- Beginning an operation: the site takes its next timestamp, signs the submit and data strings and writes a submit.
use Rattle.std.specs.Prelude.{◌≡◌, ℕ, ◌+◌, ◌*◌, ◌<◌, ◌≤◌, List, ◌++◌, length, drop, Some, None, Ok, Err, Option, Result}
use Rattle.message.specs.declared.code.Code.{Code}
use Rattle.message.specs.declared.code.Code.TheVariants.{Read, Write}
use Rattle.message.specs.Strings.{submit_string, data_string}
use Rattle.message.specs.Submit.{Submission, submit}
use Rattle.signature.specs.Calls.{Made}
use Rattle.signature.specs.Meaning.{SchemeMeaning}
use Rattle.rules.specs.declared.phase.Phase.{Phase}
use Rattle.rules.specs.declared.phase.Phase.TheVariants.{Idle, Waiting, Stopped, Retired}
use Rattle.rules.specs.declared.refusal.Refusal.{Refusal}
use Rattle.rules.specs.declared.refusal.Refusal.TheVariants.{OutOfRange, OutOfService, OutOfTurn, ValueTooLong, TimestampLimit, TooFewSignatures, BadField, BufferTooShort}
use Rattle.rules.specs.Group.{Setup, SiteState, Member, own, max_timestamp, max_value}

-- what is asked: to read a register, or to write a value to the site's own
pub data Request : Type 0 where
  read_of : ℕ → Request
  write_of : List ℕ → Request

abbrev pub code_of : Request → Code
code_of (read_of r) = Read
code_of (write_of v) = Write

abbrev pub register_of : ℕ → Request → ℕ
register_of i (read_of r) = r
register_of i (write_of v) = i

abbrev pub value_of : Request → Option (List ℕ)
value_of (read_of r) = None
value_of (write_of v) = Some v

-- the digest of the site's last value, this request's included
abbrev pub last_with : (List ℕ → List ℕ) → Option (List ℕ) → Request → Option (List ℕ)
last_with H last (read_of r) = last
last_with H last (write_of v) = Some (H v)

-- a stopped or retired site, and a waiting one
abbrev pub Ended : Phase → Type 0
Ended Idle = ⊥
Ended (Waiting c r) = ⊥
Ended Stopped = Unit {0}
Ended Retired = Unit {0}

abbrev pub Waits : Phase → Type 0
Waits Idle = ⊥
Waits (Waiting c r) = Unit {0}
Waits Stopped = ⊥
Waits Retired = ⊥

-- a register of the group, and a value that is not too long
abbrev pub Ranged : Setup → Request → Type 0
Ranged p (read_of r) = Member p.size r
Ranged p (write_of v) = Unit {0}

abbrev pub Short : Request → Type 0
Short (read_of r) = Unit {0}
Short (write_of v) = length v ≤ max_value

abbrev pub value_size : Request → ℕ
value_size (read_of r) = 0
value_size (write_of v) = length v

-- the bytes of the submit
abbrev pub submit_size : Setup → Request → ℕ
submit_size p q = 10 + 2 * p.signature + value_size q

-- Which refusal a begin with room for so many bytes meets: in each case the checks before it have passed, and this one fails.
abbrev pub BeginRefused : Setup → SchemeMeaning → SiteState → Request → ℕ → Refusal → Type 0
BeginRefused p m s q room OutOfRange = Ranged p q → ⊥
BeginRefused p m s q room OutOfService = Ranged p q × Ended s.phase
BeginRefused p m s q room OutOfTurn = Ranged p q × Waits s.phase
BeginRefused p m s q room ValueTooLong = Ranged p q × (s.phase ≡ Idle) × (Short q → ⊥)
BeginRefused p m s q room TimestampLimit = Ranged p q × (s.phase ≡ Idle) × Short q × (max_timestamp ≤ own s)
BeginRefused p m s q room TooFewSignatures = Ranged p q × (s.phase ≡ Idle) × Short q × (own s < max_timestamp) × (m.left s.number < 4)
BeginRefused p m s q room (BadField offset) = ⊥
BeginRefused p m s q room BufferTooShort =
    Ranged p q × (s.phase ≡ Idle) × Short q × (own s < max_timestamp) × (4 ≤ m.left s.number) × (room < submit_size p q)

-- the site waits for the answer to this request
abbrev pub begun : Setup → SiteState → Request → SiteState
begun p s q =
    record {
      number = s.number;
      version = s.version;
      last = last_with p.digest s.last q;
      phase = Waiting (code_of q) (register_of s.number q);
    }

-- The submit that is written, but for its two signatures, which are left open: they are valid from then on.
pub record Begun (p : Setup) (m m' : SchemeMeaning) (s s' : SiteState) (q : Request) (was is : List ℕ) (a : Submission) : Type 0 where
  pub ranged : Ranged p q
  pub idle : s.phase ≡ Idle
  pub short : Short q
  pub below : own s < max_timestamp
  pub four : 4 ≤ m.left s.number
  pub room : submit_size p q ≤ length was
  pub site : a.site ≡ s.number
  pub code : a.code ≡ code_of q
  pub register : a.register ≡ register_of s.number q
  pub timestamp : a.timestamp ≡ own s + 1
  pub value : a.value ≡ value_of q
  pub between : SchemeMeaning
  pub submits : Made p.signature m between s.number (submit_string a.code a.register a.timestamp) a.submit_signature
  pub datas : Made p.signature between m' s.number (data_string a.timestamp s'.last) a.data_signature
  pub after : s' ≡ begun p s q
  pub out : is ≡ (submit p.size p.signature).put a ++ drop (submit_size p q) was

-- a begin of the request q into a buffer: the submit in front and the old bytes behind it; or a refusal, and all as it was
abbrev pub Begins : Setup → SchemeMeaning → SchemeMeaning → SiteState → SiteState → Request → List ℕ → List ℕ → Result Submission Refusal → Type 0
Begins p m m' s s' q was is (Ok a) = Begun p m m' s s' q was is a
Begins p m m' s s' q was is (Err e) = BeginRefused p m s q (length was) e × (m' ≡ m) × (s' ≡ s) × (is ≡ was)
