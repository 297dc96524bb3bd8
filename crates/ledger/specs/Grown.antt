-- What one more entry does to what a ledger means.
use Rattle.std.specs.Prelude.{◌≡◌, ℕ, ◌+◌, ◌-◌, ◌^◌, ◌<◌, ◌≤◌, Bool, true, false, List, [], ◌∷◌, ◌++◌, map, length, ◌==◌, ◌≢◌, nat_eq, nat_lt, slice_index_or, refl}
use Rattle.std.proofs.Common.{⊎_elim, ◌∙◌, arith, add-zero, eq-eqb, lt-ltb}
use Rattle.std.proofs.lemmas.Slice.Eq.{bytes_eq-Decides}
use Rattle.std.proofs.lemmas.List.{map-append, length-map, get_or_append_left, get_or-append-add, get_or_past}
use Rattle.std.proofs.lemmas.List.Sums.{sum_by_push}
use Rattle.std.proofs.lemmas.Bool.{and_parts, and_from, both_ways, cases_eq, cases_lt}
use Rattle.octets.specs.Numbers.{number}
use Rattle.octets.proofs.Numbers.{length-big_endian, number-big_endian}
use Rattle.signature.specs.Limits.{max_text}
use Rattle.signature.specs.Meaning.{Site}
use Rattle.signature.specs.Calls.{Made}
use Rattle.ledger.specs.declared.entry.Entry.{Entry}
use Rattle.ledger.specs.Entries.{Signing, signing, most, count, serial, next_serial, holds, names, meaning}
use Rattle.ledger.specs.Held.{held}

-- what it says that a signature names an entry that holds a site and a text
pub names_parts : (es : List Signing) (s : ℕ) (t g : List ℕ) → names es s t g ≡ true
    → ((length g == 8) ≡ true) × (nat_lt 0 (number g) ≡ true) × (slice_index_or (map (holds s t) es) (number g - 1) false ≡ true)
names_parts es s t g h =
    let p = and_parts (length g == 8) _ h in
    let q = and_parts (nat_lt 0 (number g)) _ p.1 in
    (p.0, q.0, q.1)

length-serial : (n : ℕ) → length (serial n) ≡ 8
unfolding serial
length-serial n = length-big_endian 8 n

number_serial : (n : ℕ) → n < 256 ^ 8 → number (serial n) ≡ n
unfolding serial
number_serial n fits = number-big_endian 8 n fits

module _ (es : List Signing) (s : ℕ) (t : List ℕ) where
  count_same : count s (es ++ signing s t ∷ []) ≡ count s es + 1
  count_same = sum_by_push _ es (signing s t) ∙ rw (eq-eqb s s refl)

  count_other : (k : ℕ) → (k ≢ s) → count k (es ++ signing s t ∷ []) ≡ count k es
  count_other k ne = let no : nat_eq s k ≡ false = grind (arith, ne) in sum_by_push _ es (signing s t) ∙ rw no (add-zero (count k es))

  pub few_more : ((k : ℕ) → count k es ≤ most) → count s es < most → (k : ℕ) → count k (es ++ signing s t ∷ []) ≤ most
  few_more few less k =
      ⊎_elim
      (λ (e : k ≡ s). rw (e, count_same) (omega arith))
      (λ (ne : k ≡ s → ⊥). rw (count_other k ne) (few k))
      (cases_eq k s)

  -- what stood at a place still does
  kept : (f : Signing → Bool) (k : ℕ) → slice_index_or (map f es) k false ≡ true → slice_index_or (map f (es ++ signing s t ∷ [])) k false ≡ true
  kept f k h =
      ⊎_elim
      (λ (lt : k < length (map f es)). rw (map-append f es (signing s t ∷ []), get_or_append_left (map f es) (f (signing s t) ∷ []) false k lt) h)
      (λ (le : length (map f es) ≤ k). absurd (both_ways _ (get_or_past (map f es) k false le) h))
      (cases_lt k (length (map f es)))

  -- and the new entry stands behind the others
  last : (f : Signing → Bool) → slice_index_or (map f (es ++ signing s t ∷ [])) (length es) false ≡ f (signing s t)
  last f =
      let a = get_or-append-add (map f es) (f (signing s t) ∷ []) 0 false in
      let l : length (map f es) + 0 ≡ length es = rw (length-map, add-zero) refl in
      rw (map-append f es (signing s t ∷ [])) (rw l at a)

  self : holds s t (signing s t) ≡ true
  self = and_from _ _ (eq-eqb s s refl) ((bytes_eq-Decides t t).1 refl)

  named : (g : List ℕ) → length g ≡ 8 → number g ≡ length es + 1 → names (es ++ signing s t ∷ []) s t g ≡ true
  named g long is =
      let one : length es + 1 - 1 ≡ length es = omega arith in
      and_from _ _ (eq-eqb (length g) 8 long) (rw is (and_from _ _ (lt-ltb 0 (length es + 1) (omega arith)) (rw one (last (holds s t) ∙ self))))

  pub made : Site s → length t ≤ max_text → count s es < most → length es + 1 < 256 ^ 8 → Made 8 (meaning es) (meaning (es ++ signing s t ∷ [])) s t (next_serial es)
  made known short less fits =
      record {
        fits = record { ranged = known; short = short; sized = length-serial (length es + 1) };
        some = omega arith;
        holds = named (next_serial es) (length-serial (length es + 1)) (number_serial (length es + 1) fits);
        stays = λ k u g h.
            let p = names_parts es k u g h in
            and_from _ _ p.0 (and_from _ _ p.1 (kept (holds k u) (number g - 1) p.2));
        others = λ k ne. rw (count_other k ne);
        falls = rw count_same (omega arith);
        by_one = rw count_same (omega arith);
      }

-- the entries of the code with one more behind them
pub pushed : (xs ys : List Entry) (e : Entry) (s : ℕ) (t : List ℕ) → ys ≡ xs ++ e ∷ [] → held e ≡ signing s t → map held ys ≡ map held xs ++ signing s t ∷ []
pushed xs ys e s t more is = rw (more, map-append held xs (e ∷ []), is)
