use Rattle.std.proofs.Common.{◌≡◌, ℕ, ◌-◌, ◌%◌, List, ◌++◌, length, take, ap, ◌∙◌, arith, lit<}
use Rattle.std.proofs.lemmas.List.{length-take-le}
use Rattle.digest.specs.Blocks.{whole}
use Rattle.digest.proofs.Blocks.{holds_end}
use Rattle.sha3.specs.Sha3.{padding, sha3_256, squeezed, step, zeros}
use Rattle.sha3.proofs.Padding.{padding_mod}
use Rattle.sha3.proofs.hasher.calls.HasherStreaming.finalize.Goals as goal

pub returns : goal.returns
unfolding sha3_256
returns c bs h =
    let s = c.args.self.now in
    let rest : List ℕ = take (s.used - 0) s.buffer in
    let pad : List ℕ = padding (length bs) in
    let used : s.used - 0 ≡ s.used = omega arith in
    let l : length rest ≡ s.used - 0 = length-take-le (s.used - 0) s.buffer (omega (arith, h.count, h.wide)) in
    let m : length rest % 136 ≡ length bs % 136 = omega (arith, h.count) in
    c.conclude.ensures
    ∙ ap squeezed
    (ap (λ z. whole step 136 s.state (rest ++ z)) (padding_mod (length rest) (length bs) m)
    ∙ ap (λ k. whole step 136 s.state (take k s.buffer ++ pad)) used
    ∙ holds_end step 136 (lit< tt) zeros s.state s.buffer s.used bs h pad)
