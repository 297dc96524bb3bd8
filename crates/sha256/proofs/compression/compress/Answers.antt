use Rattle.std.proofs.Common.{◌≡◌, ℕ, ◌+◌, ◌*◌, ◌<◌, List, [], sym, refl, ap, ◌∙◌, subst, arith}
use Rattle.digest.proofs.Tables.{tabled}
use Rattle.sha256.specs.Compression.{Constants, added, compressed, rounds, schedule, words}
use Rattle.sha256.specs.Window.{Shows, four_at, sixteen_at}
use Rattle.sha256.proofs.Rounds.{block_scheduled}
use Rattle.sha256.proofs.compression.compress.Goals as goal
use Rattle.sha256.proofs.compression.compress.Goals.{then-j-lt3, else-j-lt3}

pub loop-j-init : goal.loop-j-init
unfolding rounds
loop-j-init c = (λ h. c.load-w.ensures, refl)

pub loop-j-preserved : goal.loop-j-preserved
unfolding Constants four_at sixteen_at
loop-j-preserved c =
    let j : ℕ = c.loop-j.j in
    let W : List ℕ = schedule (words c.args.block.now 16) 48 in
    let n : 16 * j + 16 ≡ 16 * (j + 1) = omega arith in
    let w = c.loop-j.invariant.0 (omega arith) in
    let k = tabled (λ i. sixteen_at Constants (16 * i)) 4 _ j [] refl c.loop-j-test.true in
    let r = c.sixteen_rounds-r.ensures W c.args.s (16 * j) w k c.loop-j.invariant.1 in
    let more : j + 1 < 4 → Shows W (16 * (j + 1)) c.if-j-lt3.w =
    λ h. elim c.if-j-lt3.branch [
      | then-j-lt3 v ↦
          subst (Shows W (16 * (j + 1))) (sym v.w-is)
          (subst (λ t. Shows W t v.advance-w.result) n (v.advance-w.ensures W (16 * j) (block_scheduled c.args.block.now) (omega arith) w))
      | else-j-lt3 v ↦ absurd (omega (arith, v.if-j-lt3.false))
    ] in
    (more, r ∙ ap (rounds W c.args.s) n)

pub returns : goal.returns
unfolding compressed
returns c =
    let n : 16 * c.loop-j.j ≡ 64 = omega arith in
    let r = c.loop-j.invariant.1 ∙ ap (rounds (schedule (words c.args.block.now 16) 48) c.args.s) n in
    c.add.ensures ∙ ap (added c.args.s) r
