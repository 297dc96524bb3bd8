use Rattle.message.proofs.Placed.{no_value, some_value}
use Rattle.message.proofs.places.place_value.Goals as goal

pub returns-in-None : goal.returns-in-None
returns-in-None c = rw c.in-None.is (no_value c.args.offset _ c.saturating_add-start.ensures)

pub returns-in-Some : goal.returns-in-Some
returns-in-Some c = rw c.in-Some.is (some_value c.in-Some.bytes.now c.args.offset _ _ _ c.saturating_add-start.ensures c.place-end.ensures)
