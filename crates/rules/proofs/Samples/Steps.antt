-- The steps of sample runs: each is the rule of its call, at a site or a host whose checks pass.
use Rattle.std.proofs.Common.{◌≡◌, ℕ, ◌+◌, ◌<◌, ◌≤◌, true, List, [], ◌∷◌, ◌++◌, length, drop, replicate, Ok, Option, unwrap_or, refl, lit≤}
use Rattle.octets.specs.Field.{read}
use Rattle.message.specs.declared.place.Place.{Place}
use Rattle.message.specs.Commit.{Commitment, commit}
use Rattle.message.specs.Reply.{Response, reply}
use Rattle.message.specs.Slots.{value_slot}
use Rattle.message.specs.Strings.{submit_string, data_string, commit_string, proof_string}
use Rattle.message.specs.Submit.{Submission, submit}
use Rattle.store.specs.Meaning.{StoreMeaning}
use Rattle.store.specs.declared.slot.Slot.TheVariants.{Value}
use Rattle.rules.specs.declared.phase.Phase.TheVariants.{Idle}
use Rattle.rules.specs.Group.{SiteState, HostState, own, max_timestamp}
use Rattle.rules.specs.Begin.{Request, code_of, register_of, value_of, Ranged, Short, submit_size, begun, Begins}
use Rattle.rules.specs.Running.{result}
use Rattle.rules.specs.Checks.{Passes}
use Rattle.rules.specs.Finish.{Operation, Awaits, read_reply, Completion, Placed, completed, Finishes, finished}
use Rattle.rules.specs.Taking.{NextSubmit, stored, replied, entry_of, Exchange, TakesSubmit}
use Rattle.rules.proofs.Samples.Toy.{toy, toy_valid, toy_made, sig, p, enter, entered}

-- the lent buffers have 300 bytes
abbrev pub room : List ℕ
room = replicate 300 0

-- a begin
abbrev pub asked : SiteState → Request → Submission
asked s q = record {
  site = s.number;
  code = code_of q;
  register = register_of s.number q;
  timestamp = own s + 1;
  submit_signature = sig;
  value = value_of q;
  data_signature = sig;
}

abbrev pub submit_written : SiteState → Request → List ℕ
submit_written s q = (submit 2 1).put (asked s q) ++ drop (submit_size p q) room

pub begins :
    (s : SiteState) (q : Request) → Ranged p q → s.phase ≡ Idle → Short q → own s < max_timestamp → submit_size p q ≤ length room
    → toy_valid s.number (submit_string (code_of q) (register_of s.number q) (own s + 1)) sig ≡ true
    → toy_valid s.number (data_string (own s + 1) (begun p s q).last) sig ≡ true
    → Begins p toy toy s (begun p s q) q room (submit_written s q) (Ok (asked s q))
begins s q ranged idle short below fits v w = record {
  ranged = ranged;
  idle = idle;
  short = short;
  below = below;
  four = lit≤ tt;
  room = fits;
  site = refl;
  code = refl;
  register = refl;
  timestamp = refl;
  value = refl;
  between = toy;
  submits = toy_made s.number (submit_string (code_of q) (register_of s.number q) (own s + 1)) v;
  datas = toy_made s.number (data_string (own s + 1) (begun p s q).last) w;
  after = refl;
  out = refl;
}

-- a finish
abbrev pub done : SiteState → Rattle.message.specs.declared.code.Code.Code → ℕ → Response → Option Place → Completion
done s c r a place = record {
  code = c;
  register = r;
  reply = a;
  commit = record { site = s.number; version = (result p.digest s.number a).version; commit_signature = sig; proof_signature = sig };
  place = place;
}

abbrev pub commit_written : Commitment → List ℕ
commit_written c = (commit 2 1).put c ++ drop 76 room

pub finishes :
    (s : SiteState) (t : Operation) (c : Rattle.message.specs.declared.code.Code.Code) (r : ℕ) (bs : List ℕ) (a : Response) (place : Option Place) → Awaits s t c r
    → read_reply p c bs ≡ Ok a → Passes p toy s r a → Placed 1 bs a.found place
    → toy_valid s.number (commit_string (result p.digest s.number a).version) sig ≡ true
    → toy_valid s.number (proof_string (unwrap_or (result p.digest s.number a).digest [])) sig ≡ true
    → Finishes p toy toy s (completed p s a) t bs room (commit_written (done s c r a place).commit) (finished (done s c r a place))
finishes s t c r bs a place awaits reads passes placed v w = record {
  awaits = awaits;
  two = lit≤ tt;
  reads = reads;
  room = lit≤ tt;
  passes = passes;
  site = refl;
  version = refl;
  between = toy;
  commits = toy_made s.number (commit_string (result p.digest s.number a).version) v;
  proves = toy_made s.number (proof_string (unwrap_or (result p.digest s.number a).digest [])) w;
  place = placed;
  after = refl;
  out = refl;
}

-- a submit taken
abbrev pub exchange : HostState → StoreMeaning → Submission → Exchange
exchange h m a = record { submission = a; response = replied p h m a }

abbrev pub reply_bytes : HostState → StoreMeaning → Submission → List ℕ
reply_bytes h m a = (reply 2 1).put (replied p h m a)

abbrev pub reply_written : HostState → StoreMeaning → Submission → List ℕ
reply_written h m a = reply_bytes h m a ++ drop (length (reply_bytes h m a)) room

abbrev pub listed_with : HostState → Submission → HostState
listed_with h a = record { committer = h.committer; list = h.list ++ (entry_of a ∷ []) }

pub takes_submit :
    (h : HostState) (m : StoreMeaning) (a : Submission) (bs : List ℕ) → read (submit 2 1) bs ≡ Ok a → NextSubmit p m a → length h.list < 2 → 0 < m.left
    → length (reply_bytes h m a) ≤ length room
    → TakesSubmit p h (listed_with h a) m (enter m Value a.site ((value_slot 1).put (stored p m a))) bs room (reply_written h m a) (Ok (exchange h m a))
takes_submit h m a bs reads next free left fits = record {
  reads = reads;
  next = next;
  free = free;
  left = left;
  entered = entered m Value a.site ((value_slot 1).put (stored p m a));
  answer = refl;
  room = fits;
  after = refl;
  out = refl;
}
