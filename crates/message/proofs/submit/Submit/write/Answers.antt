use Rattle.std.proofs.lemmas.List.{append-nil}
use Rattle.message.specs.Submit.{submitted}
use Rattle.message.proofs.Laws.{submit_law}
use Rattle.message.proofs.Writing.{writes, submit_put}
use Rattle.message.proofs.submit.Submit.write.Goals as goal

pub returns : goal.returns
returns c n g =
    let m = submitted c.args.self.now in
    let v = c.in_ok-size.ensures in
    let e = submit_put n g m _ c.in_ok-size.size c.in_ok-size.value.now c.submit_start-head.ensures v.1 in
    writes m _ _ c.args.out.now _ _ (submit_law n g) v.0 (rw (append-nil m.data_signature) e) c.fill.ensures
