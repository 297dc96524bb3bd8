-- a message that comes in pieces
use Rattle.std.proofs.Common.{◌≡◌, ℕ, ◌+◌, ◌-◌, ◌*◌, ◌%◌, ◌^◌, List, ◌++◌, length, take, sym, ap, ◌∙◌, append_assoc, arith, lit<, length-append}
use Rattle.digest.specs.Blocks.{Holds, whole}
use Rattle.digest.proofs.Blocks.{holds_end, whole_first}
use Rattle.sha256.specs.declared.compression.State.{State}
use Rattle.sha256.specs.Compression.{compressed}
use Rattle.sha256.specs.Sha256.{Initial, output, padding, sha256}

pub padding_wraps : (n : ℕ) → padding (n % 2 ^ 64) ≡ padding n
unfolding padding
padding_wraps n =
    let a : n % 2 ^ 64 % 64 ≡ n % 64 = omega arith in
    let b : (n % 2 ^ 64 * 8) % 2 ^ 64 ≡ (n * 8) % 2 ^ 64 = omega arith in
    cc

-- the end of a message that a hasher took, with the part `block[0..len % 64]` as the checker reads it
pub taken : (bs block : List ℕ) (s : State) (len : ℕ) → Holds compressed 64 Initial s block (len % 64) bs → len ≡ length bs % 2 ^ 64
    → output (whole compressed 64 s (take (len % 64 - 0) block ++ padding len)) ≡ sha256 bs
unfolding sha256
taken bs block s len h n =
    let k : len % 64 - 0 ≡ len % 64 = omega arith in
    ap (λ z. output (whole compressed 64 s (take z block ++ padding len))) k
    ∙ ap output (holds_end compressed 64 (lit< tt) Initial s block (len % 64) bs h (padding len))
    ∙ ap (λ z. output (whole compressed 64 Initial (bs ++ z))) (ap padding n ∙ padding_wraps (length bs))

-- the end of a message whose first block is already in the state
pub begun : (block rest : List ℕ) (s : State) → length block ≡ 64 → s ≡ compressed Initial block
    → output (whole compressed 64 s (rest ++ padding ((length rest + 64) % 2 ^ 64))) ≡ sha256 (block ++ rest)
unfolding sha256
begun block rest s l e =
    let n : length rest + 64 ≡ length (block ++ rest) = omega (arith, length-append block rest) in
    let p : padding ((length rest + 64) % 2 ^ 64) ≡ padding (length (block ++ rest)) = padding_wraps (length rest + 64) ∙ ap padding n in
    let P : List ℕ = padding (length (block ++ rest)) in
    ap (λ z. output (whole compressed 64 s (rest ++ z))) p
    ∙ ap (λ z. output (whole compressed 64 z (rest ++ P))) e
    ∙ ap output (sym (whole_first compressed 64 (lit< tt) Initial block (rest ++ P) l))
    ∙ ap (λ z. output (whole compressed 64 Initial z)) (sym (append_assoc block rest P))
