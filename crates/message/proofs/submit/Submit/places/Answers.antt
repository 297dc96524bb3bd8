use Rattle.std.proofs.Common.{[], ◌++◌, rules, arith}
use Rattle.std.proofs.lemmas.List.{append-nil}
use Rattle.message.specs.Fields.{value}
use Rattle.message.specs.Submit.{submit, submitted}
use Rattle.message.proofs.submit.Submit.places.Goals as goal

pub returns : goal.returns
returns c n g l =
    let m = submitted c.args.self.now in
    let bs = (submit n g).put m in
    let a = c.place-end.ensures bs (value.put m.value ++ m.data_signature) l (record { within = omega arith; there = search rules }) in
    let b = c.place_value-value.ensures bs _ l a.1 in
    let behind = b.1 in
    let d = c.place.ensures bs [] l (rw (append-nil m.data_signature) (search rules)) in
    record { submit_signature = a.0.0; value = b.0.0; data_signature = d.0.0 }
