use Rattle.std.proofs.Common.{◌≡◌, arith}
use Rattle.sha256.specs.Compression.{T1, one_round}
use Rattle.sha256.specs.Words.{Ch, Σ1, plus}
use Rattle.sha256.proofs.compression.round.Goals as goal

pub returns : goal.returns
unfolding one_round
returns c k w e =
    let s = c.args.s in
    let t : plus (plus (plus s.h c.args.x) (Ch s.e s.f s.g)) (Σ1 s.e) ≡ T1 s k w = omega arith in
    cc
