use Rattle.std.proofs.Common.{◌≡◌, ℕ, ◌+◌, ◌-◌, ◌*◌, ◌/◌, ◌%◌, ◌^◌, ◌<◌, List, ◌++◌, length, take, drop, set, replicate, sym, refl, ap, ◌∙◌, zero-add, arith}
use borrow.Rule.Slice.PartMut.{put_mid, Post-is}
use Rattle.digest.specs.Blocks.{whole}
use Rattle.sha256.specs.Compression.{compressed}
use Rattle.sha256.specs.Padded.{padded}
use Rattle.sha256.specs.Sha256.{bytes64, padding}
use Rattle.sha256.proofs.message.finish.Goals as goal

-- `front` put at the start of zeros, the bit 1 after it, and `back` put over the last eight bytes before `end`
laid : (rest front back bits : List ℕ) (n end : ℕ) → front ≡ rest → back ≡ bits → bits ≡ bytes64 ((n * 8) % 2 ^ 64)
    → length rest < 64 → n % 64 ≡ length rest → end ≡ 64 * ((length rest + 8) / 64 + 1)
    → take end (put_mid (end - 8) (end - (end - 8)) (set (front ++ drop (length rest) (replicate 128 0)) (length rest) 0x80) back) ≡ rest ++ padding n
laid rest front back bits n end f b e short last ends =
    let t₁ : List ℕ = front ++ drop (length rest) (replicate 128 0) in
    let S : List ℕ = set t₁ (length rest) 0x80 in
    let p₁ : t₁ ≡ rest ++ drop (0 + length rest) (replicate 128 0) =
    ap (λ z. z ++ drop (length rest) (replicate 128 0)) f ∙ ap (λ k. rest ++ drop k (replicate 128 0)) (sym (zero-add (length rest))) in
    let lb : length bits ≡ 8 = ap length e in
    let from : end ≡ end - 8 + length bits = omega arith in
    let p₂ : put_mid (end - 8) (end - (end - 8)) S back ≡ take (end - 8) S ++ (bits ++ drop (end - 8 + length bits) S) =
    ap (λ z. take (end - 8) S ++ (back ++ z)) (Post-is (end - 8) end S (omega arith) ∙ ap (λ k. drop k S) from)
    ∙ ap (λ z. take (end - 8) S ++ (z ++ drop (end - 8 + length bits) S)) b in
    let all : end ≡ end - 0 = omega arith in
    ap (λ k. take k (put_mid (end - 8) (end - (end - 8)) S back)) all ∙ padded rest t₁ _ bits n end p₁ p₂ e short last ends

pub returns : goal.returns
returns c =
    c.absorb.ensures.state
    ∙ ap (whole compressed 64 c.args.s)
    (laid c.args.rest.now c.copy_from_slice.new.self c.copy_from_slice-2.new.self c.to_be_bytes.result c.args.n _
    c.copy_from_slice.ensures.after c.copy_from_slice-2.ensures.after c.to_be_bytes.ensures c.requires.short c.requires.last refl)
