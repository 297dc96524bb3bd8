use Rattle.std.proofs.Common.{◌≡◌, length, Ok, arith, rules}
use Rattle.message.specs.Replied.{entered as listed_with}
use Rattle.message.specs.Slots.{value_stored}
use Rattle.message.specs.Submit.{submitted}
use Rattle.rules.specs.Taking.{entry_of}
use Rattle.host.specs.Enters.{value_then}
use Rattle.host.specs.State.{host_state}
use Rattle.host.proofs.Entering.{then_is, entered}
use Rattle.host.proofs.Listing.{pushed}
use Rattle.host.proofs.host.Host.enter.Goals as goal

pub returns-clause-enters : goal.returns-clause-enters
returns-clause-enters t c =
    let h = c.args.self.now in
    let g = h.signature in
    let m = t.T.Store.means h.store in
    let a = submitted c.args.submit.now in
    let v = value_stored c.stored-new.result in
    let later : v ≡ value_then g m a = then_is g m a v (value_stored c.value_slot-old.result) c.stored-new.ensures c.value_slot-old.ensures.says in
    let long : length c.reply.new.out ≡ length c.args.out.now = omega arith in
    let is : c.reply.result ≡ Ok c.in_ok-size.size = search rules in
    let slot = rw (c.unwrap.ensures, c.value_bytes-bytes.ensures.bytes g) at c.keep.ensures in
    let entry : listed_with g c.list_entry.result ≡ entry_of a = rw c.requires.formed.signed at c.list_entry.ensures in
    entered h.size g (host_state h) m a v later c.args.out.now c.reply.new.out _ (t.T.Store.means c.keep.new.store) c.in_ok-size.size c.reply.result is c.reply.ensures long slot.1
    (pushed g h.committer h.list.items _ c.list_entry.result (entry_of a) c.push.ensures.items entry)
