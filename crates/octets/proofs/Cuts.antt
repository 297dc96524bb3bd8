-- A cut that has its bytes, as the specification and as the code's patterns have it.
use Rattle.std.proofs.Common.{◌≡◌, ℕ, zero, suc, ◌+◌, ◌-◌, ◌≤◌, true, leb, List, [], ◌∷◌, length, get_or, take, drop, sym, refl, ap, ◌∙◌, add-one, arith}
use Rattle.std.proofs.lemmas.List.{take_rest, drop_more}
use Rattle.octets.specs.Numbers.{number}
use Rattle.octets.specs.Field.{good, cut, numeral}

pub cut_good : {A : Type 0} (size : ℕ) (v : A) (bs : List ℕ) → size ≤ length bs → cut size v bs ≡ good v (drop size bs)
cut_good size v bs h = let e : leb size (length bs) ≡ true = grind arith in rw e

-- the rest of a slice pattern
pub cut_rest : {A : Type 0} (size : ℕ) (v : A) (bs : List ℕ) → size ≤ length bs → cut size v bs ≡ good v (take (length bs - size) (drop size bs))
cut_rest size v bs h = cut_good size v bs h ∙ ap (good v) (sym (take_rest bs size))

-- the bytes of bs at k, k + 1, .., one by one
abbrev pub each : List ℕ → ℕ → ℕ → List ℕ
each bs k zero = []
each bs k (suc n) = get_or bs k 0 ∷ each bs (suc k) n

take-each : (bs : List ℕ) (k n : ℕ) → k + n ≤ length bs → take n (drop k bs) ≡ each bs k n
take-each bs k zero h = refl
take-each bs k (suc n) h =
    let d : drop k bs ≡ get_or bs k 0 ∷ drop (suc k) bs = drop_more bs k 0 (omega arith) ∙ rw add-one in
    rw d (ap (λ (l : List ℕ). get_or bs k 0 ∷ l) (take-each bs (suc k) n (omega arith)))

-- a number that the code made of the bytes one by one
pub numeral_rest : (width : ℕ) (bs : List ℕ) (n : ℕ) → width ≤ length bs → number (each bs 0 width) ≡ n
    → (numeral width).get bs ≡ good n (take (length bs - width) (drop width bs))
numeral_rest width bs n h e = cut_rest width (number (take width bs)) bs h ∙ rw (take-each bs 0 width (omega arith), e)
