use Rattle.host.specs.Says.{version_of}
use Rattle.host.proofs.Proving.{room_for, proofs_more, proofs_all}
use Rattle.host.proofs.host.Host.copy_proofs.Goals as goal

pub loop-place-preserved : goal.loop-place-preserved
loop-place-preserved t c =
    let h = c.args.self.now in
    let room = room_for h.signature c.loop-place.place h.size h.signed.1 c.loop-place-test.true h.sized.1 in
    proofs_more c.loop-place.out c.copy_proof.new.out h.signature c.loop-place.place (λ i. (version_of h.size h.signature (t.T.Store.means h.store) i).proof_signature)
    c.loop-place.invariant.0 room c.copy_proof.ensures.long c.copy_proof.ensures.value c.loop-place.invariant.1

pub returns : goal.returns
returns t c =
    let h = c.args.self.now in
    proofs_all c.loop-place.out h.signature c.loop-place.place h.size (λ i. (version_of h.size h.signature (t.T.Store.means h.store) i).proof_signature)
    c.loop-place-test.false c.loop-place.invariant.1
