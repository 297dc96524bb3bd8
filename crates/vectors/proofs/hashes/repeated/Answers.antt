use Rattle.std.proofs.Common.{sym, subst, add-one}
use Rattle.vectors.specs.Hashes.{times}
use Rattle.vectors.proofs.hashes.repeated.Goals as goal

pub loop-init : goal.loop-init
unfolding times
loop-init g c = c.new-hasher.ensures

pub loop-preserved : goal.loop-preserved
unfolding times
loop-preserved g c =
    subst (λ n. g.H.Streaming.took c.update.new.self (times n c.args.bytes.now)) (sym (add-one c.loop.counter)) (c.update.ensures _ c.loop.invariant)
