-- Runs that there are, so that the law over runs says something.
use Rattle.std.specs.Prelude.{◌≡◌, ℕ, List, [], ◌∷◌, Some}
use Rattle.message.specs.declared.code.Code.TheVariants.{Read, Write}
use Rattle.store.specs.Meaning.{Empty}
use Rattle.version.specs.declared.order.Order.TheVariants.{Apart}
use Rattle.version.specs.Order.{AtOrBelow, Stands}
use Rattle.rules.specs.declared.phase.Phase.TheVariants.{Stopped}
use Rattle.rules.specs.declared.stop.Stop.TheVariants.{Forked}
use Rattle.rules.specs.Group.{Group, Started}
use Rattle.rules.specs.Finish.{Operation, Completion, stopped}
use Rattle.rules.specs.Runs.{finish, Event, now, Run}
use Rattle.rules.specs.Shown.{completions, value_found}
use Rattle.rules.specs.History.{operation, history}
use Rattle.rules.specs.Law.{Replays, Delivers}

-- With our host, site 1 submits a write and site 2 a read of register 1, and the read finishes first: its view history is (1,1),(2,1), and
-- that of the write is (1,1).
pub record Overtaken : Type 0 where
  pub group : Group
  pub started : Started group
  pub empty : Empty group.start.store
  pub events : List Event
  pub run : Run group events
  pub delivers : Delivers group events
  pub replays : Replays group events
  pub reader : Completion
  pub writer : Completion
  pub both : completions events ≡ writer ∷ reader ∷ []
  pub reads : reader.code ≡ Read
  pub writes : writer.code ≡ Write
  pub value : value_found reader.reply.found ≡ Some (7 ∷ [])
  pub seen_by_reader : history (completions events) reader ≡ operation 1 1 ∷ operation 2 1 ∷ []
  pub seen_by_writer : history (completions events) writer ≡ operation 1 1 ∷ []

-- A host that shows each of two sites a past without the other: their versions stand apart, though every reply only replays.
pub record Forking : Type 0 where
  pub group : Group
  pub started : Started group
  pub events : List Event
  pub run : Run group events
  pub replays : Replays group events
  pub one : Completion
  pub two : Completion
  pub both : completions events ≡ two ∷ one ∷ []
  pub apart : Stands AtOrBelow one.commit.version two.commit.version Apart

-- A host that came back from an old state and replies as if nothing had been committed: the site that has finished an operation stops.
pub record Restored : Type 0 where
  pub group : Group
  pub started : Started group
  pub events : List Event
  pub run : Run group events
  pub ticket : Operation
  pub reply : List ℕ
  pub was : List ℕ
  pub is : List ℕ
  pub earlier : List Event
  pub last : events ≡ record { call = finish 1 ticket reply was is (stopped Forked); after = now group events } ∷ earlier
  pub phase : ((now group events).sites 1).phase ≡ Stopped

pub record Samples : Type 0 where
  pub overtaken : Overtaken
  pub forking : Forking
  pub restored : Restored
