use Rattle.std.proofs.Common.{◌≡◌, ℕ, ◌+◌, arith}
use Rattle.message.proofs.Joining.{joined_length, joined_front}
use Rattle.message.proofs.parts.fit.Goals as goal

pub returns-then-left-part : goal.returns-then-left-part
returns-then-left-part c =
    let ps = c.args.parts.now in
    let i = c.loop-part.part-index in
    let m = joined_length ps i (omega arith) in
    let f = joined_front ps (i + 1) in
    ((λ e. let z : ◌≡◌ {A = ℕ} 0 1 = cc in absurd (omega arith)), (λ h. absurd (omega (arith, m, f, h))))

pub loop-part-preserved : goal.loop-part-preserved
loop-part-preserved c =
    let ps = c.args.parts.now in
    let i = c.loop-part.part-index in
    let m = joined_length ps i (omega arith) in
    omega arith
