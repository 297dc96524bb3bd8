-- Bytes are the same where no XOR of two of them has a bit.
use Rattle.std.proofs.Common.{◌≡◌, ℕ, eqb, List, [], ◌∷◌, length, sym, refl, ap, ◌∙◌, arith}
use Rattle.std.specs.List.{fold, zip}
use Rattle.std.specs.Str.{bytes_eq}
use lib.Bits.{bit_or, bit_xor, or_add_and, and_le_l, and_le_r, xor_zero_l, xor_zero_r, xor_self, xor_assoc}
use Rattle.std.proofs.lemmas.Bool.Decides.{same_from_decides, Decides-eqb, Decides-like}
use Rattle.std.proofs.lemmas.Slice.Eq.{bytes_eq-Decides}
use Rattle.hmac.specs.Differing.{differing}

or_none : (a b : ℕ) → bit_or a b ≡ 0 → (a ≡ 0) × (b ≡ 0)
or_none a b h =
    let s = or_add_and a b in
    let l = and_le_l a b in
    let r = and_le_r a b in
    (omega arith, omega arith)

xor_none : (a b : ℕ) → bit_xor a b ≡ 0 → a ≡ b
xor_none a b h = sym (xor_zero_r a) ∙ ap (bit_xor a) (sym (xor_self b)) ∙ sym (xor_assoc a b b) ∙ rw h (xor_zero_l b)

none_differs : (xs ys : List ℕ) (d : ℕ) → length xs ≡ length ys → fold (λ bits p. bit_or bits (bit_xor p.0 p.1)) d (zip xs ys) ≡ 0 → (d ≡ 0) × (xs ≡ ys)
none_differs [] [] d n e = (e, refl)
none_differs [] (y ∷ ys) d n e = absurd (omega arith)
none_differs (x ∷ xs) [] d n e = absurd (omega arith)
none_differs (x ∷ xs) (y ∷ ys) d n e =
    let p = none_differs xs ys (bit_or d (bit_xor x y)) (omega arith) e in
    let q = or_none d (bit_xor x y) p.0 in
    let first = xor_none x y q.1 in
    (q.0, rw (first, p.1) refl)

none_same : (xs : List ℕ) (d : ℕ) → d ≡ 0 → fold (λ bits p. bit_or bits (bit_xor p.0 p.1)) d (zip xs xs) ≡ 0
none_same [] d e = e
none_same (x ∷ xs) d e = none_same xs (bit_or d (bit_xor x x)) (rw (e, xor_self x) refl)

pub tells : (xs ys : List ℕ) → length xs ≡ length ys → eqb (differing xs ys) 0 ≡ bytes_eq xs ys
tells xs ys n = same_from_decides _ _ (Decides-like _ (λ e. (none_differs xs ys 0 n e).1) (λ e. rw e (none_same ys 0 refl)) (Decides-eqb (differing xs ys) 0)) (bytes_eq-Decides xs ys)
