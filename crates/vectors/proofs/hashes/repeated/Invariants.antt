use Rattle.vectors.specs.Hashes.{times}
use Rattle.vectors.proofs.hashes.repeated.Given as goal

abbrev pub invariant-loop : goal.invariant-loop
invariant-loop g l = g.H.Streaming.took l.hasher (times l.counter l.bytes)
