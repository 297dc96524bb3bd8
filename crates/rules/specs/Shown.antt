-- What a run shows: what was begun, finished and taken, what was signed, checked and digested. Every list has its newest item first.
use Rattle.std.specs.Prelude.{◌≡◌, ℕ, zero, suc, ◌+◌, Bool, true, cond, ◌&&◌, ◌⊎◌, List, [], ◌∷◌, ◌++◌, Some, None, Ok, Err, Option, ◌==◌}
use Rattle.std.specs.Option.{option_map, unwrap_or}
use Rattle.message.specs.Reply.{Listed, Held, Response}
use Rattle.message.specs.Strings.{submit_string, data_string, commit_string, proof_string}
use Rattle.message.specs.Submit.{Submission}
use Rattle.version.specs.Order.{Slot}
use Rattle.rules.specs.Group.{GroupState, Group, slot}
use Rattle.rules.specs.Begin.{Request, read_of, write_of, last_with}
use Rattle.rules.specs.Running.{Running, from_reply, rise, all_links}
use Rattle.rules.specs.Checks.{proof_of}
use Rattle.rules.specs.Finish.{Completion, finished, refused, stopped}
use Rattle.rules.specs.Taking.{Exchange}
use Rattle.rules.specs.Runs.{Call, begin, finish, abandon, take_submit, take_commit, Event, now}

-- x is one of a list
infix 50 ◌∈◌
abbrev pub ◌∈◌ : {A : Type 0} → A → List A → Type 0
◌∈◌ x [] = ⊥
◌∈◌ x (y ∷ ys) = (x ≡ y) ⊎ (x ∈ ys)

-- P holds of each item of a list
abbrev pub Each : {A : Type 0} → (A → Type 0) → List A → Type 0
Each P [] = Unit {0}
Each P (x ∷ xs) = P x × Each P xs

-- what an accepted call did; a refusal and a stop did none of these
pub data Deed : Type 0 where
  began : Request → Submission → Deed
  completed : Completion → Deed
  took : Exchange → Deed
  other : Deed

abbrev pub deed : Call → Deed
deed (begin i q was is (Ok a)) = began q a
deed (begin i q was is (Err e)) = other
deed (finish i t bs was is (finished d)) = completed d
deed (finish i t bs was is (refused e)) = other
deed (finish i t bs was is (stopped s)) = other
deed (abandon i t answer) = other
deed (take_submit bs was is (Ok x)) = took x
deed (take_submit bs was is (Err e)) = other
deed (take_commit bs answer) = other

-- the submits that sites wrote
abbrev pub submission_in : Deed → List Submission
submission_in (began q a) = a ∷ []
submission_in (completed d) = []
submission_in (took x) = []
submission_in other = []

abbrev pub submissions : List Event → List Submission
submissions [] = []
submissions (e ∷ r) = submission_in (deed e.call) ++ submissions r

-- the operations that sites finished
abbrev pub completion_in : Deed → List Completion
completion_in (began q a) = []
completion_in (completed d) = d ∷ []
completion_in (took x) = []
completion_in other = []

abbrev pub completions : List Event → List Completion
completions [] = []
completions (e ∷ r) = completion_in (deed e.call) ++ completions r

-- the submits that the host took, with its replies
abbrev pub exchange_in : Deed → List Exchange
exchange_in (began q a) = []
exchange_in (completed d) = []
exchange_in (took x) = x ∷ []
exchange_in other = []

abbrev pub exchanges : List Event → List Exchange
exchanges [] = []
exchanges (e ∷ r) = exchange_in (deed e.call) ++ exchanges r

-- a site signed a string, and this was the answer
pub record Signing : Type 0 where
  pub site : ℕ
  pub text : List ℕ
  pub signature : List ℕ

abbrev pub signing : ℕ → List ℕ → List ℕ → Signing
signing i text signature = record { site = i; text = text; signature = signature }

-- what a call signed, in the state before it
abbrev pub signed_in : (List ℕ → List ℕ) → GroupState → Deed → List Signing
signed_in H x (began q a) =
    signing a.site (submit_string a.code a.register a.timestamp) a.submit_signature
    ∷ signing a.site (data_string a.timestamp (last_with H (x.sites a.site).last q)) a.data_signature
    ∷ []
signed_in H x (completed d) =
    signing d.commit.site (commit_string d.commit.version) d.commit.commit_signature
    ∷ signing d.commit.site (proof_string (unwrap_or (slot d.commit.version d.commit.site).digest [])) d.commit.proof_signature
    ∷ []
signed_in H x (took t) = []
signed_in H x other = []

abbrev pub signed : Group → List Event → List Signing
signed G [] = []
signed G (e ∷ r) = signed_in G.setup.digest (now G r) (deed e.call) ++ signed G r

-- every timestamp is 0
abbrev pub is_zero : List Slot → Bool
is_zero [] = true
is_zero (s ∷ v) = s.timestamp == 0 && is_zero v

-- the signatures that an accepted finish checked: of a version only where it is not zero, of a digest only where there is one,
-- of a value only above timestamp 0
abbrev pub version_checked : ℕ → List Slot → List ℕ → List Signing
version_checked i v signature = cond (is_zero v) [] (signing i (commit_string v) signature ∷ [])

abbrev pub proof_checked : ℕ → Option (List ℕ) → List ℕ → List Signing
proof_checked i None signature = []
proof_checked i (Some d) signature = signing i (proof_string d) signature ∷ []

abbrev pub data_checked : (List ℕ → List ℕ) → ℕ → Held → ℕ → List Signing
data_checked H r h zero = []
data_checked H r h (suc t) = signing r (data_string (suc t) (option_map H h.value)) h.data_signature ∷ []

abbrev pub found_checked : (List ℕ → List ℕ) → ℕ → Option Held → List Signing
found_checked H r None = []
found_checked H r (Some h) = version_checked r h.version h.commit_signature ++ data_checked H r h h.timestamp

abbrev pub entries_checked : (List ℕ → List ℕ) → Response → Running → List Listed → List Signing
entries_checked H a w [] = []
entries_checked H a w (e ∷ es) =
    proof_checked e.site (slot w.version e.site).digest (proof_of a.proofs e.site)
    ++ (signing e.site (submit_string e.code e.register ((slot w.version e.site).timestamp + 1)) e.submit_signature
    ∷ entries_checked H a (rise H w e.site) es)

abbrev pub checked : (List ℕ → List ℕ) → Completion → List Signing
checked H d =
    version_checked d.reply.committer d.reply.version d.reply.commit_signature
    ++ (entries_checked H d.reply (from_reply d.reply) d.reply.entries ++ found_checked H d.register d.reply.found)

-- the values of begun writes and, at accepted finishes, each string whose digest the running digest becomes and each value read
abbrev pub written_in : Request → List (List ℕ)
written_in (read_of r) = []
written_in (write_of v) = v ∷ []

abbrev pub listed : {A : Type 0} → Option A → List A
listed None = []
listed (Some x) = x ∷ []

abbrev pub value_found : Option Held → Option (List ℕ)
value_found None = None
value_found (Some h) = h.value

abbrev pub digested_in : (List ℕ → List ℕ) → Deed → List (List ℕ)
digested_in H (began q a) = written_in q
digested_in H (completed d) = all_links H d.commit.site d.reply ++ listed (value_found d.reply.found)
digested_in H (took x) = []
digested_in H other = []

abbrev pub digested : (List ℕ → List ℕ) → List Event → List (List ℕ)
digested H [] = []
digested H (e ∷ r) = digested_in H (deed e.call) ++ digested H r
