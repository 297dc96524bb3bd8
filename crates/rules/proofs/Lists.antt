-- Lists of operations, newest first: how often a site stands in one, and the list cut after the site's last place. `of` gives the
-- site of an operation.
use Rattle.std.proofs.Common.{◌≡◌, ℕ, suc, ◌+◌, ◌≤◌, cond, eqb, ◌⊎◌, List, [], ◌∷◌, ◌++◌, sym, refl, ap, ◌∙◌, subst, inl, inr, arith}
use Rattle.rules.specs.Shown.{◌∈◌}

-- membership
pub in_left : {A : Type 0} (x : A) (s t : List A) → x ∈ s → x ∈ (s ++ t)
in_left x [] t m = absurd m
in_left x (y ∷ s) t (inl e) = inl e
in_left x (y ∷ s) t (inr m) = inr (in_left x s t m)

pub in_right : {A : Type 0} (x : A) (s t : List A) → x ∈ t → x ∈ (s ++ t)
in_right x [] t m = m
in_right x (y ∷ s) t m = inr (in_right x s t m)

pub in_cases : {A : Type 0} (x : A) (s t : List A) → x ∈ (s ++ t) → (x ∈ s) ⊎ (x ∈ t)
in_cases x [] t m = inr m
in_cases x (y ∷ s) t (inl e) = inl (inl e)
in_cases x (y ∷ s) t (inr m) = go (in_cases x s t m)
  where
    go : (x ∈ s) ⊎ (x ∈ t) → (x ∈ (y ∷ s)) ⊎ (x ∈ t)
    go (inl a) = inl (inr a)
    go (inr b) = inr b

pub in_middle : {A : Type 0} (x : A) (rest l : List A) → x ∈ (rest ++ (x ∷ l))
in_middle x [] l = inl refl
in_middle x (y ∷ rest) l = inr (in_middle x rest l)

-- a list with one item more
pub all_cons : {A : Type 0} (P : A → Type 0) (x : A) (l : List A) → P x → ((y : A) → y ∈ l → P y) → (y : A) → y ∈ (x ∷ l) → P y
all_cons P x l here rest y (inl e) = subst P (sym e) here
all_cons P x l here rest y (inr m) = rest y m

-- the first list stands at the end of the second: a history that began the other, both newest first
abbrev pub Ends : {A : Type 0} → List A → List A → Type 0
Ends {A} h h' = (rest : List A) × (rest ++ h ≡ h')

module _ {A : Type 0} where
  pub ends_refl : (h : List A) → Ends h h
  ends_refl h = ([], refl)

  pub ends_none : (h : List A) → Ends [] h
  ends_none [] = ([], refl)
  ends_none (x ∷ h) = let w = ends_none h in (x ∷ w.0, ap (λ (l : List A). x ∷ l) w.1)

  pub ends_more : (x : A) (h h' : List A) → Ends h h' → Ends h (x ∷ h')
  ends_more x h h' p = (x ∷ p.0, ap (λ (l : List A). x ∷ l) p.1)

  pub ends_trans : (a b c : List A) → Ends a b → Ends b c → Ends a c
  ends_trans a b c p q = subst (λ (z : List A). Ends a z) q.1 (go q.0)
    where
      go : (rest : List A) → Ends a (rest ++ b)
      go [] = p
      go (x ∷ rest) = ends_more x a (rest ++ b) (go rest)

  pub ends_tail : (x : A) (h h' : List A) → Ends (x ∷ h) h' → Ends h h'
  ends_tail x h h' p = ends_trans h (x ∷ h) h' (x ∷ [], refl) p

  -- two beginnings of one history: one begins the other
  pub side : (a b c : List A) → Ends a c → Ends b c → Ends a b ⊎ Ends b a
  side a b c p q = go p.0 q.0 (p.1 ∙ sym q.1)
    where
      go : (x y : List A) → x ++ a ≡ y ++ b → Ends a b ⊎ Ends b a
      go [] y e = inr (y, sym e)
      go (u ∷ x) [] e = inl (u ∷ x, e)
      go (u ∷ x) (w ∷ y) e = let e' : x ++ a ≡ y ++ b = cc in go x y e'

module _ {A : Type 0} (of : A → ℕ) where
  -- how many operations of k are in the list
  unfoldable pub times : ℕ → List A → ℕ
  times k [] = 0
  times k (x ∷ h) = cond (eqb (of x) k) (suc (times k h)) (times k h)

  -- the list from the newest operation of k down
  unfoldable pub cut : ℕ → List A → List A
  cut k [] = []
  cut k (x ∷ h) = cond (eqb (of x) k) (x ∷ h) (cut k h)

  -- and what is newer
  unfoldable pub past : ℕ → List A → List A
  past k [] = []
  past k (x ∷ h) = cond (eqb (of x) k) [] (x ∷ past k h)

  pub cut_here : (k : ℕ) (x : A) (h : List A) → of x ≡ k → cut k (x ∷ h) ≡ x ∷ h
  unfolding cut
  cut_here k x h e = grind arith

  pub past_cut : (k : ℕ) (h : List A) → past k h ++ cut k h ≡ h
  unfolding past cut
  past_cut k [] = refl
  past_cut k (x ∷ h) = let ih = past_cut k h in grind arith

  pub cut_ends : (k : ℕ) (h : List A) → Ends (cut k h) h
  cut_ends k h = (past k h, past_cut k h)

  pub times_here : (x : A) (h : List A) → times (of x) (x ∷ h) ≡ suc (times (of x) h)
  unfolding times
  times_here x h = grind arith

  pub times_else : (k : ℕ) (x : A) (h : List A) → (of x ≡ k → ⊥) → times k (x ∷ h) ≡ times k h
  unfolding times
  times_else k x h n = grind arith

  pub times_cut : (k : ℕ) (h : List A) → times k (cut k h) ≡ times k h
  unfolding times cut
  times_cut k [] = refl
  times_cut k (x ∷ h) = let ih = times_cut k h in grind arith

  pub times-append : (k : ℕ) (a b : List A) → times k (a ++ b) ≡ times k a + times k b
  unfolding times
  times-append k [] b = omega arith
  times-append k (x ∷ a) b = let ih = times-append k a b in grind arith

  pub times_more : (k : ℕ) (rest h : List A) → times k h ≤ times k (rest ++ h)
  unfolding times
  times_more k [] h = omega arith
  times_more k (x ∷ rest) h = let ih = times_more k rest h in grind arith

  -- a longer history with no more operations of k has the same last one
  pub cut_more : (k : ℕ) (rest h : List A) → times k h ≡ times k (rest ++ h) → cut k (rest ++ h) ≡ cut k h
  unfolding times cut
  cut_more k [] h e = refl
  cut_more k (x ∷ rest) h e = let ih = cut_more k rest h in let m = times_more k rest h in grind arith

  pub times_ends : (k : ℕ) (h h' : List A) → Ends h h' → times k h ≤ times k h'
  times_ends k h h' p = subst (λ (z : List A). times k h ≤ times k z) p.1 (times_more k p.0 h)

  pub cut_same : (k : ℕ) (h h' : List A) → Ends h h' → times k h ≡ times k h' → cut k h' ≡ cut k h
  cut_same k h h' p = subst (λ (z : List A). times k h ≡ times k z → cut k z ≡ cut k h) p.1 (cut_more k p.0 h)

  -- two beginnings of one history with as many operations of k have the same last one
  pub one_cut : (k : ℕ) (a b c : List A) → Ends a c → Ends b c → times k a ≡ times k b → cut k a ≡ cut k b
  one_cut k a b c p q e = go (side a b c p q)
    where
      go : Ends a b ⊎ Ends b a → cut k a ≡ cut k b
      go (inl s) = sym (cut_same k a b s e)
      go (inr s) = cut_same k b a s (sym e)

  -- with no operation of k in the new part, k's last one is in the part before; with one, it is in the new part
  pub cut_skip : (k : ℕ) (new b : List A) → times k new ≡ 0 → cut k (new ++ b) ≡ cut k b
  unfolding times cut
  cut_skip k [] b e = refl
  cut_skip k (x ∷ new) b e = let ih = cut_skip k new b in grind arith

  pub cut_new : (k : ℕ) (new b : List A) → 1 ≤ times k new → cut k (new ++ b) ≡ cut k new ++ b
  unfolding times cut
  cut_new k [] b e = absurd (omega arith)
  cut_new k (x ∷ new) b e = let ih = cut_new k new b in grind arith

  pub past_new : (k : ℕ) (new b : List A) → 1 ≤ times k new → past k (new ++ b) ≡ past k new
  unfolding times past
  past_new k [] b e = absurd (omega arith)
  past_new k (x ∷ new) b e = let ih = past_new k new b in grind arith
