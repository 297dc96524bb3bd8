use Rattle.sha3.proofs.Mixed.{Mixed}
use Rattle.sha3.proofs.sponge.mix.Given as goal

abbrev pub invariant-loop-i : goal.invariant-loop-i
invariant-loop-i l = Mixed l.initial.mixed l.block l.mixed l.i
