-- No site has more than its share, so all sites together have no more than theirs.
use Rattle.std.proofs.Common.{◌≡◌, ℕ, zero, suc, ◌+◌, ◌*◌, ◌<◌, ◌≤◌, false, cond, eqb, List, [], ◌∷◌, map, length, refl, ◌∙◌, ⊎_elim, arith, eq-eqb}
use Rattle.std.proofs.lemmas.List.Sums.{sum_by-cons}
use Rattle.std.proofs.lemmas.Bool.{cases_eq}
use Rattle.signature.specs.Limits.{max_sites}
use Rattle.ledger.specs.declared.entry.Entry.{Entry}
use Rattle.ledger.specs.Entries.{Signing, most, count}
use Rattle.ledger.specs.Held.{held}

-- the entries of the sites 1 to n
total : ℕ → List Signing → ℕ
total zero es = 0
total (suc n) es = total n es + count (suc n) es

-- how many of the sites 1 to n are x
among : ℕ → ℕ → ℕ
among zero x = 0
among (suc n) x = among n x + cond (eqb x (suc n)) 1 0

total_none : (n : ℕ) → total n [] ≡ 0
unfolding total
total_none zero = refl
total_none (suc n) = rw (total_none n) (omega arith)

total_cons : (n : ℕ) (e : Signing) (es : List Signing) → total n (e ∷ es) ≡ among n e.signer + total n es
unfolding total among
total_cons zero e es = refl
total_cons (suc n) e es =
    let i = total_cons n e es in
    let k : count (suc n) (e ∷ es) ≡ cond (eqb e.signer (suc n)) 1 0 + count (suc n) es = sum_by-cons _ e es in
    omega arith

eqb_no : (x y : ℕ) → (x ≡ y → ⊥) → eqb x y ≡ false
eqb_no x y other = grind (arith, other)

among_none : (n x : ℕ) → n < x → among n x ≡ 0
unfolding among
among_none zero x h = refl
among_none (suc n) x h = rw (among_none n x (omega arith), eqb_no x (suc n) (λ e. omega arith))

among_one : (n x : ℕ) → 1 ≤ x → x ≤ n → among n x ≡ 1
unfolding among
among_one zero x low high = absurd (omega arith)
among_one (suc n) x low high =
    ⊎_elim
    (λ (e : x ≡ suc n). rw (among_none n x (omega arith), eq-eqb x (suc n) e))
    (λ (ne : x ≡ suc n → ⊥). let h : x ≤ n = grind (arith, ne) in rw (among_one n x low h, eqb_no x (suc n) ne))
    (cases_eq x (suc n))

total_all : (xs : List Entry) → total max_sites (map held xs) ≡ length xs
total_all [] = total_none max_sites
total_all (x ∷ xs) = total_cons max_sites (held x) (map held xs) ∙ rw (among_one max_sites x.site x.ranged.0 x.ranged.1, total_all xs) (omega arith)

module _ (es : List Signing) (few : (s : ℕ) → count s es ≤ most) where
  total_le : (n : ℕ) → total n es ≤ n * most
  unfolding total
  total_le zero = omega arith
  total_le (suc n) = let i = total_le n in let k = few (suc n) in omega arith

  total_lt : (n s : ℕ) → 1 ≤ s → s ≤ n → count s es < most → total n es < n * most
  unfolding total
  total_lt zero s low high less = absurd (omega arith)
  total_lt (suc n) s low high less =
      ⊎_elim
      (λ (e : s ≡ suc n). let i = total_le n in let k : count (suc n) es < most = rw (← e) less in omega arith)
      (λ (ne : s ≡ suc n → ⊥). let h : s ≤ n = grind (arith, ne) in let i = total_lt n s low h less in let k = few (suc n) in omega arith)
      (cases_eq s (suc n))

-- where a site can still sign, there is a place for one more entry
pub room_left : (xs : List Entry) (s : ℕ) → ((k : ℕ) → count k (map held xs) ≤ most) → 1 ≤ s → s ≤ max_sites → count s (map held xs) < most → length xs < max_sites * most
room_left xs s few low high less = rw (← total_all xs) (total_lt (map held xs) few max_sites s low high less)
