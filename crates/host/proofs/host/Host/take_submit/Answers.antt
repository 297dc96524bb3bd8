use Rattle.std.proofs.Common.{◌<◌, length, arith}
use Rattle.std.proofs.lemmas.List.{length-map}
use Rattle.message.specs.Replied.{entered}
use Rattle.message.specs.Submit.{submitted}
use Rattle.host.specs.State.{host_state, host_setup, list_of}
use Rattle.host.proofs.Submitting.{taken}
use Rattle.host.proofs.host.Host.take_submit.Goals as goal

pub returns-clause-taken : goal.returns-clause-taken
returns-clause-taken t c H =
    let h = c.args.self.now in
    let l = length-map h.list.items (entered h.signature) in
    let free : length (list_of h) < h.size = omega (arith, l, c.len.ensures.value, c.if-len-self.false) in
    let some : 0 < (t.T.Store.means h.store).left = omega (arith, c.left.ensures, c.if-left-eq0.false) in
    taken (host_setup H h) (host_state h) (t.T.Store.means h.store) c.args.bytes.now c.args.out.now (submitted c.in_ok-submit.submit)
    c.in_ok-submit.ensures.0 (c.next_submit.ensures.0 c.if-not-next_submit.false) (host_state c.enter.new.self) (t.T.Store.means c.enter.new.self.store) c.enter.new.out c.enter.result
    free some c.enter.ensures.enters
