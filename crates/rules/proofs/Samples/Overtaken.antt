-- A read that finishes before the write that it saw, with our host.
use Rattle.std.proofs.Common.{ℕ, List, [], ◌∷◌, Some, None, Ok, Option, refl, inl, inr, le_refl, arith, lit<, lit≤}
use Rattle.message.specs.declared.code.Code.TheVariants.{Read, Write}
use Rattle.message.specs.declared.place.Place.{Place}
use Rattle.message.specs.Reply.{Response}
use Rattle.message.specs.Slots.{value_slot}
use Rattle.message.specs.Submit.{Submission, submit}
use Rattle.store.specs.declared.slot.Slot.TheVariants.{Value}
use Rattle.store.specs.Meaning.{StoreMeaning, Sound}
use Rattle.version.specs.Order.{Slot, AtOrBelow}
use Rattle.rules.specs.Group.{SiteState, HostState, GroupState, new_site, new_host}
use Rattle.rules.specs.Begin.{Request, read_of, write_of, begun}
use Rattle.rules.specs.Checks.{Passes}
use Rattle.rules.specs.Finish.{Completion, completed, finished}
use Rattle.rules.specs.Taking.{replied, stored}
use Rattle.rules.specs.Runs.{begin, finish, take_submit, Step, Event, Run}
use Rattle.rules.specs.History.{operation}
use Rattle.rules.specs.Law.{Replays, Delivers}
use Rattle.rules.specs.Examples.{Overtaken}
use Rattle.rules.proofs.Slots.{at_or_below_from}
use Rattle.rules.proofs.Samples.Toy.{p, toy, enter, no_slots, no_slots_sound, sound_enter, bytes_from, state, parts, only_1, only_2, group, started}
use Rattle.rules.proofs.Samples.Steps.{
  room,
  asked,
  submit_written,
  begins,
  done,
  commit_written,
  finishes,
  exchange,
  reply_bytes,
  reply_written,
  listed_with,
  takes_submit,
}

pub le_same : (v : List Slot) → AtOrBelow v v
le_same v = at_or_below_from v v refl (λ i. record { stamp = le_refl (Rattle.rules.specs.Group.slot v i).timestamp; told = λ e. refl })

-- the write of site 1, and the host that took it
abbrev write : Request
write = write_of (7 ∷ [])

abbrev read : Request
read = read_of 1

abbrev idle1 : SiteState
idle1 = new_site 2 1

abbrev idle2 : SiteState
idle2 = new_site 2 2

abbrev wait1 : SiteState
wait1 = begun p idle1 write

abbrev wait2 : SiteState
wait2 = begun p idle2 read

abbrev sub1 : Submission
sub1 = asked idle1 write

abbrev sub2 : Submission
sub2 = asked idle2 read

abbrev slots1 : List ℕ
slots1 = (value_slot 1).put (stored p no_slots sub1)

abbrev store1 : StoreMeaning
store1 = enter no_slots Value 1 slots1

abbrev host1 : HostState
host1 = listed_with new_host sub1

-- and the read of site 2
abbrev slots2 : List ℕ
slots2 = (value_slot 1).put (stored p store1 sub2)

abbrev store2 : StoreMeaning
store2 = enter store1 Value 2 slots2

abbrev host2 : HostState
host2 = listed_with host1 sub2

abbrev answer1 : Response
answer1 = replied p new_host no_slots sub1

abbrev answer2 : Response
answer2 = replied p host1 store1 sub2

abbrev bytes1 : List ℕ
bytes1 = reply_bytes new_host no_slots sub1

abbrev bytes2 : List ℕ
bytes2 = reply_bytes host1 store1 sub2

-- the value is the last byte but one
abbrev place : Option Place
place = Some (record { offset = 162; length = 1 })

abbrev done1 : Completion
done1 = done wait1 Write 1 answer1 None

abbrev done2 : Completion
done2 = done wait2 Read 1 answer2 place

abbrev e1 : Event
e1 = record { call = begin 1 write room (submit_written idle1 write) (Ok sub1); after = state wait1 idle2 new_host no_slots }

abbrev e2 : Event
e2 = record {
  call = take_submit ((submit 2 1).put sub1) room (reply_written new_host no_slots sub1) (Ok (exchange new_host no_slots sub1));
  after = state wait1 idle2 host1 store1;
}

abbrev e3 : Event
e3 = record { call = begin 2 read room (submit_written idle2 read) (Ok sub2); after = state wait1 wait2 host1 store1 }

abbrev e4 : Event
e4 = record {
  call = take_submit ((submit 2 1).put sub2) room (reply_written host1 store1 sub2) (Ok (exchange host1 store1 sub2));
  after = state wait1 wait2 host2 store2;
}

abbrev e5 : Event
e5 = record {
  call = finish 2 (operation 2 1) bytes2 room (commit_written done2.commit) (finished done2);
  after = state wait1 (completed p wait2 answer2) host2 store2;
}

abbrev e6 : Event
e6 = record {
  call = finish 1 (operation 1 1) bytes1 room (commit_written done1.commit) (finished done1);
  after = state (completed p wait1 answer1) (completed p wait2 answer2) host2 store2;
}

abbrev events : List Event
events = e6 ∷ e5 ∷ e4 ∷ e3 ∷ e2 ∷ e1 ∷ []

sound1 : Sound store1
sound1 = sound_enter no_slots Value 1 slots1 refl refl no_slots_sound

sound2 : Sound store2
sound2 = sound_enter store1 Value 2 slots2 refl refl sound1

passes1 : Passes p toy wait1 1 answer1
passes1 = record { committed = inl refl; follows = record { above = le_same answer1.version; same = refl }; list = tt; answer = tt }

passes2 : Passes p toy wait2 1 answer2
passes2 = record {
  committed = inl refl;
  follows = record { above = le_same answer2.version; same = refl };
  list = ((tt, (λ e. omega arith), record { below = lit< tt; signed = refl }), tt);
  answer = record { owner = inl refl; value = refl; within = record { below = le_same answer2.version; same = refl }; recent = inr refl };
}

step1 : Step p group.start e1.call e1.after
step1 = ((lit≤ tt, lit≤ tt), only_1 idle1 wait1 idle2 new_host no_slots, begins idle1 write tt refl (lit≤ tt) (lit< tt) (lit≤ tt) refl refl)

step2 : Step p e1.after e2.call e2.after
step2 = (
  record { scheme = refl; sites = refl },
  bytes_from ((submit 2 1).put sub1) refl,
  takes_submit new_host no_slots sub1 ((submit 2 1).put sub1) refl (record { next = refl; done = refl }) (lit< tt) (lit< tt) (lit≤ tt),
)

step3 : Step p e2.after e3.call e3.after
step3 = (
  (lit≤ tt, lit≤ tt),
  only_2 wait1 idle2 wait2 host1 store1,
  begins idle2 read (lit≤ tt, lit≤ tt) refl tt (lit< tt) (lit≤ tt) refl refl,
)

step4 : Step p e3.after e4.call e4.after
step4 = (
  record { scheme = refl; sites = refl },
  bytes_from ((submit 2 1).put sub2) refl,
  takes_submit host1 store1 sub2 ((submit 2 1).put sub2) refl (record { next = refl; done = refl }) (lit< tt) (lit< tt) (lit≤ tt),
)

step5 : Step p e4.after e5.call e5.after
step5 = (
  (lit≤ tt, lit≤ tt),
  only_2 wait1 wait2 (completed p wait2 answer2) host2 store2,
  bytes_from bytes2 refl,
  finishes wait2 (operation 2 1) Read 1 bytes2 answer2 place (record { phase = refl; site = refl; timestamp = refl }) refl passes2 (refl, refl) refl refl,
)

step6 : Step p e5.after e6.call e6.after
step6 = (
  (lit≤ tt, lit≤ tt),
  only_1 wait1 (completed p wait1 answer1) (completed p wait2 answer2) host2 store2,
  bytes_from bytes1 refl,
  finishes wait1 (operation 1 1) Write 1 bytes1 answer1 None (record { phase = refl; site = refl; timestamp = refl }) refl passes1 refl refl refl,
)

run : Run group events
run = (
  step6,
  parts (completed p wait1 answer1) (completed p wait2 answer2) host2 store2 sound2,
  (
    step5,
    parts wait1 (completed p wait2 answer2) host2 store2 sound2,
    (
      step4,
      parts wait1 wait2 host2 store2 sound2,
      (
        step3,
        parts wait1 wait2 host1 store1 sound1,
        (
          step2,
          parts wait1 idle2 host1 store1 sound1,
          (step1, parts wait1 idle2 new_host no_slots no_slots_sound, tt),
        ),
      ),
    ),
  ),
)

delivers : Delivers group events
delivers = (
  record { exchange = exchange new_host no_slots sub1; given = inr (inl refl); ticket = refl; bytes = refl },
  (
    record { exchange = exchange host1 store1 sub2; given = inl refl; ticket = refl; bytes = refl },
    (inl refl, (tt, (inl refl, (tt, tt)))),
  ),
)

replays : Replays group events
replays = (
  (tt, tt),
  (((inr (inr (inl refl)), (inr (inr (inr (inl refl))), tt)), tt), (tt, (tt, (tt, (tt, tt))))),
)

pub overtaken : Overtaken
overtaken = record {
  group = group;
  started = started;
  empty = λ s i. refl;
  events = events;
  run = run;
  delivers = delivers;
  replays = replays;
  reader = done2;
  writer = done1;
  both = refl;
  reads = refl;
  writes = refl;
  value = refl;
  seen_by_reader = refl;
  seen_by_writer = refl;
}
