use Rattle.std.proofs.Common.{◌≡◌, ℕ, ◌+◌, ◌*◌, ◌/◌, ◌<◌, [], length, get_or, ap, ◌∙◌, add-zero, arith, lit<}
use Rattle.std.specs.Simd.{first_chunks}
use Rattle.digest.proofs.Blocks.{byte_chunked}
use Rattle.sha256.proofs.schedule.word.Goals as goal

pub returns : goal.returns
returns c =
    let block = c.args.block.now in
    let i = c.args.i in
    let words = c.as_chunks.result.0.now in
    let count : length block / 4 ≡ 16 = omega arith in
    let split : words ≡ first_chunks 4 16 block = c.as_chunks.ensures.front ∙ ap (λ n. first_chunks 4 n block) count in
    let at : (k : ℕ) → k < 4 → get_or (get_or words i []) k 0 ≡ get_or block (4 * i + k) 0 =
    λ k l. ap (λ z. get_or (get_or z i []) k 0) split ∙ byte_chunked 4 16 i k block [] c.requires l in
    let first = at 0 (lit< tt) ∙ ap (λ n. get_or block n 0) (add-zero (4 * i)) in
    c.from_be_bytes.ensures ∙ rw (first, at 1 (lit< tt), at 2 (lit< tt), at 3 (lit< tt))
