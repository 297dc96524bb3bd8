use Rattle.std.proofs.Common.{◌≡◌, ℕ, ◌%◌, List, [], ◌++◌, length, sym, ap, ◌∙◌, append-nil, arith, lit<, length-append}
use Rattle.digest.specs.Blocks.{absorbed, left, whole}
use Rattle.digest.proofs.Blocks.{whole_first, whole_join}
use Rattle.sha3.specs.Sha3.{padding, squeezed, step}
use Rattle.sha3.proofs.Padding.{padding-length, padding_mod}
use Rattle.sha3.proofs.sponge.conclude.Goals as goal

-- a message of one block
one_block : (s b : List ℕ) → length b ≡ 136 → step s b ≡ whole step 136 s b
unfolding absorbed
one_block s b l = sym (whole_first step 136 (lit< tt) s b [] l) ∙ ap (whole step 136 s) (append-nil b)

pub returns : goal.returns
returns c =
    let bs : List ℕ = c.args.bytes.now in
    let state : List ℕ = c.absorb-rest.new.state in
    let rest : List ℕ = c.absorb-rest.result.now in
    let last : List ℕ = rest ++ padding (length rest) in
    let pad : List ℕ = padding (length bs) in
    let m : length rest % 136 ≡ length bs % 136 = omega (arith, c.absorb-rest.ensures.len) in
    let l : length last ≡ 136 = length-append rest (padding (length rest)) ∙ omega (arith, padding-length (length rest), c.absorb-rest.ensures.len) in
    c.squeeze.ensures
    ∙ ap squeezed
    (c.compress.ensures
    ∙ ap (step state) c.last_block.ensures
    ∙ one_block state last l
    ∙ ap (λ z. whole step 136 state (rest ++ z)) (padding_mod (length rest) (length bs) m)
    ∙ ap (λ z. whole step 136 state (z ++ pad)) c.absorb-rest.ensures.rest
    ∙ ap (λ z. whole step 136 z (left 136 bs ++ pad)) c.absorb-rest.ensures.state
    ∙ sym (whole_join step 136 (lit< tt) c.args.a bs pad))
