use Rattle.std.proofs.Common.{ap, arith}
use Rattle.message.specs.Slots.{StoredVersion, value_stored}
use Rattle.version.specs.Version.{slots}
use Rattle.host.proofs.Replying.{replies}
use Rattle.host.proofs.host.Host.reply.Goals as goal

pub returns : goal.returns
returns t c =
    let h = c.args.self.now in
    let n = h.sized.1 in
    let k = h.few in
    let a = c.args.submit.now in
    let leader = c.version_slot-leader in
    replies h.size h.signature h.committer h.list.items (t.T.Store.means h.store) a.code a.site a.register (value_stored c.args.new.now) (slots leader.result.version) leader.result.commit_signature.now
    c.copy_proofs.new.out c.as_slice.result.now c.found-found.result c.args.out.now c.write.new.out c.write.result h.signed.1 c.as_slice.ensures.value (omega arith) leader.ensures.formed.sized
    (ap (λ (w : StoredVersion). w.version) leader.ensures.says) (ap (λ (w : StoredVersion). w.commit_signature) leader.ensures.says)
    c.copy_proofs.ensures c.found-found.ensures.found c.found-found.ensures.short c.write.ensures
