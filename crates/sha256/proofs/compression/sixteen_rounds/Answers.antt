use Rattle.std.proofs.Common.{◌≡◌, ℕ, ◌+◌, [], get_or, ap, arith}
use Rattle.sha256.specs.Compression.{Constants}
use Rattle.sha256.specs.Window.{sixteen_at}
use Rattle.sha256.proofs.Rounds.{rounds_more, sums}
use Rattle.sha256.proofs.compression.sixteen_rounds.Goals as goal

pub returns : goal.returns
unfolding sixteen_at
returns c W q t v k e₀ =
    let quad : (i : ℕ) → get_or c.args.k.now i [] ≡ get_or (sixteen_at Constants t) i [] = λ i. ap (λ z. get_or z i []) k in
    let x₀ = sums W t _ c.args.w.w0 (quad 0) v.first in
    let x₄ = sums W (t + 4) _ c.args.w.w4 (quad 1) v.second in
    let x₈ = sums W (t + 8) _ c.args.w.w8 (quad 2) v.third in
    let x₁₂ = sums W (t + 12) _ c.args.w.w12 (quad 3) v.fourth in
    let e₁ = rounds_more W q _ _ t t (t + 1) e₀ (c.round-s1.ensures _ _ x₀.0) (omega arith) (omega arith) in
    let e₂ = rounds_more W q _ _ (t + 1) (t + 1) (t + 2) e₁ (c.round-s2.ensures _ _ x₀.1) (omega arith) (omega arith) in
    let e₃ = rounds_more W q _ _ (t + 2) (t + 2) (t + 3) e₂ (c.round-s3.ensures _ _ x₀.2) (omega arith) (omega arith) in
    let e₄ = rounds_more W q _ _ (t + 3) (t + 3) (t + 4) e₃ (c.round-s4.ensures _ _ x₀.3) (omega arith) (omega arith) in
    let e₅ = rounds_more W q _ _ (t + 4) (t + 4) (t + 5) e₄ (c.round-s5.ensures _ _ x₄.0) (omega arith) (omega arith) in
    let e₆ = rounds_more W q _ _ (t + 5) (t + 4 + 1) (t + 6) e₅ (c.round-s6.ensures _ _ x₄.1) (omega arith) (omega arith) in
    let e₇ = rounds_more W q _ _ (t + 6) (t + 4 + 2) (t + 7) e₆ (c.round-s7.ensures _ _ x₄.2) (omega arith) (omega arith) in
    let e₈ = rounds_more W q _ _ (t + 7) (t + 4 + 3) (t + 8) e₇ (c.round-s8.ensures _ _ x₄.3) (omega arith) (omega arith) in
    let e₉ = rounds_more W q _ _ (t + 8) (t + 8) (t + 9) e₈ (c.round-s9.ensures _ _ x₈.0) (omega arith) (omega arith) in
    let e₁₀ = rounds_more W q _ _ (t + 9) (t + 8 + 1) (t + 10) e₉ (c.round-s10.ensures _ _ x₈.1) (omega arith) (omega arith) in
    let e₁₁ = rounds_more W q _ _ (t + 10) (t + 8 + 2) (t + 11) e₁₀ (c.round-s11.ensures _ _ x₈.2) (omega arith) (omega arith) in
    let e₁₂ = rounds_more W q _ _ (t + 11) (t + 8 + 3) (t + 12) e₁₁ (c.round-s12.ensures _ _ x₈.3) (omega arith) (omega arith) in
    let e₁₃ = rounds_more W q _ _ (t + 12) (t + 12) (t + 13) e₁₂ (c.round-s13.ensures _ _ x₁₂.0) (omega arith) (omega arith) in
    let e₁₄ = rounds_more W q _ _ (t + 13) (t + 12 + 1) (t + 14) e₁₃ (c.round-s14.ensures _ _ x₁₂.1) (omega arith) (omega arith) in
    let e₁₅ = rounds_more W q _ _ (t + 14) (t + 12 + 2) (t + 15) e₁₄ (c.round-s15.ensures _ _ x₁₂.2) (omega arith) (omega arith) in
    rounds_more W q _ _ (t + 15) (t + 12 + 3) (t + 16) e₁₅ (c.round.ensures _ _ x₁₂.3) (omega arith) (omega arith)
