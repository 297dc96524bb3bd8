-- Runs: calls in any order on one group or on several, refusals and stops included.
use Rattle.std.specs.Prelude.{◌≡◌, ℕ, cond, List, [], ◌∷◌, Result, ◌==◌, ◌≢◌}
use Rattle.octets.specs.Numbers.{Bytes}
use Rattle.message.specs.Commit.{Commitment}
use Rattle.message.specs.Submit.{Submission}
use Rattle.rules.specs.declared.fault.Fault.{Fault}
use Rattle.rules.specs.declared.refusal.Refusal.{Refusal}
use Rattle.rules.specs.Group.{Setup, GroupState, Group, Member, SoundParts}
use Rattle.rules.specs.Begin.{Request, Begins}
use Rattle.rules.specs.Finish.{Operation, Outcome, Finishes, Abandons}
use Rattle.rules.specs.Taking.{Exchange, TakesSubmit, TakesCommit}

-- a call with what was handed in, what a lent buffer held before and after, and the answer
pub data Call : Type 0 where
  begin : (site : ℕ) → Request → (was is : List ℕ) → Result Submission Refusal → Call
  finish : (site : ℕ) → Operation → (bytes was is : List ℕ) → Outcome → Call
  abandon : (site : ℕ) → Operation → Result (Unit {0}) Refusal → Call
  take_submit : (bytes was is : List ℕ) → Result Exchange Fault → Call
  take_commit : (bytes : List ℕ) → Result Commitment Fault → Call

-- a call of the site i leaves the store, the host and every other site as they were
pub record OnlySite (x x' : GroupState) (i : ℕ) : Type 0 where
  pub store : x'.store ≡ x.store
  pub host : x'.host ≡ x.host
  pub others : (j : ℕ) → (j ≢ i) → x'.sites j ≡ x.sites j

-- a call of the host leaves the scheme and the sites as they were
pub record OnlyHost (x x' : GroupState) : Type 0 where
  pub scheme : x'.scheme ≡ x.scheme
  pub sites : x'.sites ≡ x.sites

-- x becomes x' by a call, as the rule of that call says
abbrev pub Step : Setup → GroupState → Call → GroupState → Type 0
Step p x (begin i q was is answer) x' =
    Member p.size i × OnlySite x x' i × Begins p x.scheme x'.scheme (x.sites i) (x'.sites i) q was is answer
Step p x (finish i t bs was is answer) x' =
    Member p.size i × OnlySite x x' i × Bytes bs × Finishes p x.scheme x'.scheme (x.sites i) (x'.sites i) t bs was is answer
Step p x (abandon i t answer) x' =
    Member p.size i × OnlySite x x' i × (x'.scheme ≡ x.scheme) × Abandons (x.sites i) (x'.sites i) t answer
Step p x (take_submit bs was is answer) x' =
    OnlyHost x x' × Bytes bs × TakesSubmit p x.host x'.host x.store x'.store bs was is answer
Step p x (take_commit bs answer) x' =
    OnlyHost x x' × Bytes bs × TakesCommit p x.host x'.host x.store x'.store bs answer

-- a call, and the group after it
pub record Event : Type 0 where
  pub call : Call
  pub after : GroupState

-- A run of the group G: its calls, the last one first.
abbrev pub now : Group → List Event → GroupState
now G [] = G.start
now G (e ∷ r) = e.after

abbrev pub Run : Group → List Event → Type 0
Run G [] = Unit {0}
Run G (e ∷ r) = Step G.setup (now G r) e.call e.after × SoundParts G.setup e.after × Run G r

-- An event of one group of several.
pub record GroupEvent : Type 0 where
  pub group : ℕ
  pub event : Event

-- what happened in the group k alone
abbrev pub alone : ℕ → List GroupEvent → List Event
alone k [] = []
alone k (e ∷ r) = cond (e.group == k) (e.event ∷ alone k r) (alone k r)

-- A run of several groups: each call works on one of them, and the others stay as they are.
abbrev pub Runs : (ℕ → Group) → List GroupEvent → Type 0
Runs G [] = Unit {0}
Runs G (e ∷ r) =
    Step (G e.group).setup (now (G e.group) (alone e.group r)) e.event.call e.event.after
    × SoundParts (G e.group).setup e.event.after
    × Runs G r
