-- What an array's `map` gives, where its function answers by the argument alone.
use Rattle.std.proofs.Common.{◌≡◌, ℕ, zero, suc, ◌+◌, ◌<◌, ◌≤◌, List, map, length, get_or, ⊎_elim, subst, arith}
use Rattle.std.specs.Array.{MapsFrom, IsMapOf}
use Rattle.std.proofs.lemmas.Bool.{cases_eq}
use Rattle.std.proofs.lemmas.List.{get_or-map, ext_get_or, length-map}
use denote.Param.Members.{Mut, Called}

module _ {F A B C : Type 0} (g : Mut F (A × Unit {0}) B) (v : B → C) (h : A → C) (f : F) (gives : (x : A) (y : B) (q : F) → Called g f (x, tt) y q → (q ≡ f) × (v y ≡ h x)) where
  each : (n i k : ℕ) (xs : List A) (ys : List B) (d : C) → MapsFrom g f xs ys i n → i ≤ k → k < i + n → k < length xs → k < length ys → get_or (map v ys) k d ≡ get_or (map h xs) k d
  each zero i k xs ys d m low high kx ky = absurd (omega arith)
  each (suc n) i k xs ys d m low high kx ky =
      let same = gives m.1 m.2 m.0 m.5 in
      ⊎_elim
      (λ (e : k ≡ i). rw (get_or-map v ys k m.2 d ky, get_or-map h xs k m.1 d kx, e, m.3.0, m.4.0) same.1)
      (λ (ne : k ≡ i → ⊥). each n (i + 1) k xs ys d (subst (λ p. MapsFrom g p xs ys (i + 1) n) same.0 m.6) (grind (arith, ne)) (omega arith) kx ky)
      (cases_eq k i)

  pub mapped : (n : ℕ) (xs : List A) (ys : List B) (d : C) → length xs ≡ n → IsMapOf g f xs ys n → map v ys ≡ map h xs
  mapped n xs ys d long m =
      let t = m.long in
      ext_get_or d (map v ys) (map h xs) (simp length-map (omega arith)) (λ k lt. let b : k < length ys = rw (← length-map ys v) lt in each n 0 k xs ys d m.each (omega arith) (omega arith) (omega arith) b)
