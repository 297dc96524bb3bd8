-- The steps of a loop that reads so many fields of one kind.
use Rattle.std.proofs.Common.{◌≡◌, ℕ, suc, ◌+◌, ◌-◌, ◌<◌, ◌≤◌, List, [], ◌∷◌, ◌++◌, sym, refl, ap, ◌∙◌, arith}
use Rattle.std.proofs.lemmas.List.{append_assoc, append-nil}
use Rattle.octets.specs.Field.{Got, good, bad, Field, next, get_all}

abbrev pub after : {A : Type 0} → List A → Got (List A) → Got (List A)
after xs (good ys rest) = good (xs ++ ys) rest
after xs (bad left) = bad left

module _ {A : Type 0} (f : Field A) (n : ℕ) (bs : List ℕ) where
  -- what the loop keeps: xs are read, and the other fields are to be read from the rest
  abbrev pub Left : ℕ → List A → List ℕ → Type 0
  Left i xs rest = get_all f n bs ≡ after xs (get_all f (n - i) rest)

  pub left_more : (i : ℕ) (xs : List A) (rest : List ℕ) (a : A) (rest' : List ℕ) → i < n → Left i xs rest → f.get rest ≡ good a rest' → Left (i + 1) (xs ++ a ∷ []) rest'
  left_more i xs rest a rest' h l g =
      let e : n - i ≡ suc (n - (i + 1)) = omega arith in
      l ∙ rw (e, g) (moved (get_all f (n - (i + 1)) rest'))
    where
      moved : (m : Got (List A)) → after xs (next m (λ ys r. good (a ∷ ys) r)) ≡ after (xs ++ a ∷ []) m
      moved (good ys r) = ap (λ (zs : List A). good zs r) (sym (append_assoc xs (a ∷ []) ys))
      moved (bad left) = refl

  pub left_bad : (i : ℕ) (xs : List A) (rest : List ℕ) (left : ℕ) → i < n → Left i xs rest → f.get rest ≡ bad left → get_all f n bs ≡ bad left
  left_bad i xs rest left h l g =
      let e : n - i ≡ suc (n - (i + 1)) = omega arith in
      l ∙ rw (e, g)

  pub left_all : (i : ℕ) (xs : List A) (rest : List ℕ) → n ≤ i → Left i xs rest → get_all f n bs ≡ good xs rest
  left_all i xs rest h l =
      let e : n - i ≡ 0 = omega arith in
      l ∙ rw (e, append-nil xs)
