-- Two sites that are shown pasts without each other, and a site that meets a host from an old state.
use Rattle.std.proofs.Common.{◌≡◌, ℕ, ◌≤◌, List, [], ◌∷◌, None, Ok, refl, inl, arith, lit<, lit≤}
use Rattle.message.specs.declared.code.Code.TheVariants.{Write}
use Rattle.message.specs.Reply.{Response}
use Rattle.message.specs.Submit.{Submission}
use Rattle.rules.specs.declared.phase.Phase.TheVariants.{Stopped}
use Rattle.rules.specs.declared.stop.Stop.TheVariants.{Forked}
use Rattle.rules.specs.Group.{SiteState, new_site, new_host}
use Rattle.rules.specs.Begin.{Request, write_of, begun}
use Rattle.rules.specs.Checks.{Passes, Follows}
use Rattle.rules.specs.Finish.{Completion, completed, finished, stopped, in_phase, StoppedBy}
use Rattle.rules.specs.Taking.{replied}
use Rattle.rules.specs.Runs.{begin, finish, Step, Event, Run}
use Rattle.rules.specs.History.{operation}
use Rattle.rules.specs.Examples.{Forking, Restored}
use Rattle.rules.proofs.Samples.Toy.{p, toy, no_slots, no_slots_sound, bytes_from, state, parts, only_1, only_2, group, started}
use Rattle.rules.proofs.Samples.Steps.{room, asked, submit_written, begins, done, commit_written, finishes, reply_bytes}
use Rattle.rules.proofs.Samples.Overtaken.{le_same}

abbrev write : Request
write = write_of (7 ∷ [])

abbrev idle1 : SiteState
idle1 = new_site 2 1

abbrev idle2 : SiteState
idle2 = new_site 2 2

abbrev wait1 : SiteState
wait1 = begun p idle1 write

abbrev wait2 : SiteState
wait2 = begun p idle2 write

abbrev sub1 : Submission
sub1 = asked idle1 write

abbrev sub2 : Submission
sub2 = asked idle2 write

-- the reply of a host that knows of nothing
abbrev nothing : Response
nothing = replied p new_host no_slots sub1

abbrev bytes : List ℕ
bytes = reply_bytes new_host no_slots sub1

abbrev done1 : Completion
done1 = done wait1 Write 1 nothing None

abbrev done2 : Completion
done2 = done wait2 Write 2 nothing None

abbrev with1 : SiteState
with1 = completed p wait1 nothing

abbrev with2 : SiteState
with2 = completed p wait2 nothing

passes1 : Passes p toy wait1 1 nothing
passes1 = record { committed = inl refl; follows = record { above = le_same nothing.version; same = refl }; list = tt; answer = tt }

passes2 : Passes p toy wait2 2 nothing
passes2 = record { committed = inl refl; follows = record { above = le_same nothing.version; same = refl }; list = tt; answer = tt }

abbrev b1 : Event
b1 = record { call = begin 1 write room (submit_written idle1 write) (Ok sub1); after = state wait1 idle2 new_host no_slots }

abbrev f1 : Event
f1 = record { call = finish 1 (operation 1 1) bytes room (commit_written done1.commit) (finished done1); after = state with1 idle2 new_host no_slots }

abbrev b2 : Event
b2 = record { call = begin 2 write room (submit_written idle2 write) (Ok sub2); after = state with1 wait2 new_host no_slots }

abbrev f2 : Event
f2 = record { call = finish 2 (operation 2 1) bytes room (commit_written done2.commit) (finished done2); after = state with1 with2 new_host no_slots }

began1 : Step p group.start b1.call b1.after
began1 = ((lit≤ tt, lit≤ tt), only_1 idle1 wait1 idle2 new_host no_slots, begins idle1 write tt refl (lit≤ tt) (lit< tt) (lit≤ tt) refl refl)

finished1 : Step p b1.after f1.call f1.after
finished1 = (
  (lit≤ tt, lit≤ tt),
  only_1 wait1 with1 idle2 new_host no_slots,
  bytes_from bytes refl,
  finishes wait1 (operation 1 1) Write 1 bytes nothing None (record { phase = refl; site = refl; timestamp = refl }) refl passes1 refl refl refl,
)

began2 : Step p f1.after b2.call b2.after
began2 = ((lit≤ tt, lit≤ tt), only_2 with1 idle2 wait2 new_host no_slots, begins idle2 write tt refl (lit≤ tt) (lit< tt) (lit≤ tt) refl refl)

finished2 : Step p b2.after f2.call f2.after
finished2 = (
  (lit≤ tt, lit≤ tt),
  only_2 with1 wait2 with2 new_host no_slots,
  bytes_from bytes refl,
  finishes wait2 (operation 2 1) Write 2 bytes nothing None (record { phase = refl; site = refl; timestamp = refl }) refl passes2 refl refl refl,
)

first_run : Run group (f1 ∷ b1 ∷ [])
first_run = (finished1, parts with1 idle2 new_host no_slots no_slots_sound, (began1, parts wait1 idle2 new_host no_slots no_slots_sound, tt))

pub forking : Forking
forking = record {
  group = group;
  started = started;
  events = f2 ∷ b2 ∷ f1 ∷ b1 ∷ [];
  run = (
    finished2,
    parts with1 with2 new_host no_slots no_slots_sound,
    (began2, parts with1 wait2 new_host no_slots no_slots_sound, first_run),
  );
  replays = ((tt, tt), (tt, ((tt, tt), (tt, tt))));
  one = done1;
  two = done2;
  both = refl;
  apart = (λ le. let h : 1 ≤ 0 = (le.sites 0 (lit< tt)).stamp in omega arith, λ le. let h : 1 ≤ 0 = (le.sites 1 (lit< tt)).stamp in omega arith);
}

-- site 1 begins once more
abbrev again : SiteState
again = begun p with1 write

abbrev b3 : Event
b3 = record { call = begin 1 write room (submit_written with1 write) (Ok (asked with1 write)); after = state again idle2 new_host no_slots }

abbrev f3 : Event
f3 = record { call = finish 1 (operation 1 2) bytes room room (stopped Forked); after = state (in_phase again Stopped) idle2 new_host no_slots }

began3 : Step p f1.after b3.call b3.after
began3 = ((lit≤ tt, lit≤ tt), only_1 with1 again idle2 new_host no_slots, begins with1 write tt refl (lit≤ tt) (lit< tt) (lit≤ tt) refl refl)

lost : Follows again nothing → ⊥
lost f = let e : ◌≡◌ {A = ℕ} 1 0 = f.same in omega arith

stops : StoppedBy p toy again (in_phase again Stopped) (operation 1 2) bytes room Forked
stops = record {
  code = Write;
  register = 1;
  answer = nothing;
  awaits = record { phase = refl; site = refl; timestamp = refl };
  two = lit≤ tt;
  reads = refl;
  room = lit≤ tt;
  fails = (inl refl, lost);
  after = refl;
}

stopped3 : Step p b3.after f3.call f3.after
stopped3 = ((lit≤ tt, lit≤ tt), only_1 again (in_phase again Stopped) idle2 new_host no_slots, bytes_from bytes refl, (stops, refl, refl))

pub restored : Restored
restored = record {
  group = group;
  started = started;
  events = f3 ∷ b3 ∷ f1 ∷ b1 ∷ [];
  run = (
    stopped3,
    parts (in_phase again Stopped) idle2 new_host no_slots no_slots_sound,
    (began3, parts again idle2 new_host no_slots no_slots_sound, first_run),
  );
  ticket = operation 1 2;
  reply = bytes;
  was = room;
  is = room;
  earlier = b3 ∷ f1 ∷ b1 ∷ [];
  last = refl;
  phase = refl;
}
