use Rattle.std.proofs.Common.{refl, ap, add-one}
use Rattle.sha3.specs.Keccak.{RC, rounds}
use Rattle.digest.proofs.Tables.{tabled}
use Rattle.sha3.proofs.permutation.permute.Goals as goal

pub loop-constant-init : goal.loop-constant-init
unfolding rounds
loop-constant-init c = refl

pub loop-constant-preserved : goal.loop-constant-preserved
unfolding RC rounds
loop-constant-preserved c =
    let k = c.loop-constant.constant-index in
    let one = c.round-next.ensures k (tabled RC 24 _ k 0 refl c.loop-constant-test.true) in
    let m = ap (λ n. rounds n c.args.a) (add-one k) in
    cc
