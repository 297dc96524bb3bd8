-- Facts on the submits that the host took, newest first: the value last written, and the host's list, oldest first.
use Rattle.std.proofs.Common.{◌≡◌, ℕ, Bool, true, false, cond, ◌||◌, eqb, ◌⊎◌, List, [], ◌∷◌, ◌++◌, None, Option, sym, refl, ap, ◌∙◌, subst, inl, inr, arith}
use Rattle.std.proofs.lemmas.Bool.{cases_eq, eq-eqb, ne_eqb, cond-true, cond-false}
use Rattle.message.specs.declared.code.Code.{Code}
use Rattle.message.specs.declared.code.Code.TheVariants.{Read}
use Rattle.message.specs.Reply.{Listed}
use Rattle.message.specs.Submit.{Submission}
use Rattle.rules.specs.Taking.{value_with, entry_of, has, after_last}
use Rattle.rules.specs.Law.{last_taken}
use Rattle.rules.proofs.Lists.{Ends, side}
use Rattle.rules.proofs.Lists

-- the site of a submit, and what is counted by it
abbrev pub of : Submission → ℕ
of a = a.site

abbrev pub times : ℕ → List Submission → ℕ
times k h = Lists.times of k h

abbrev pub cut : ℕ → List Submission → List Submission
cut k h = Lists.cut of k h

abbrev pub past : ℕ → List Submission → List Submission
past k h = Lists.past of k h

-- the entries of submits, the oldest first
abbrev pub entries_of : List Submission → List Listed
entries_of [] = []
entries_of (a ∷ h) = entries_of h ++ (entry_of a ∷ [])

-- the value that the site has last written after this submit too
abbrev pub value_by : Submission → Option (List ℕ) → Option (List ℕ)
value_by a old = value_with a.code a.value old

pub last_here : (a : Submission) (h : List Submission) → last_taken a.site (a ∷ h) ≡ value_by a (last_taken a.site h)
last_here a h =
    cond-true (eqb a.site a.site) (value_by a (last_taken a.site h)) (last_taken a.site h) (eq-eqb a.site a.site refl)

pub last_else : (k : ℕ) (a : Submission) (h : List Submission) → (a.site ≡ k → ⊥) → last_taken k (a ∷ h) ≡ last_taken k h
last_else k a h n = cond-false (eqb a.site k) (value_by a (last_taken k h)) (last_taken k h) (ne_eqb a.site k n)

-- a read writes nothing
pub last_read : (k : ℕ) (a : Submission) (h : List Submission) → a.code ≡ Read → last_taken k (a ∷ h) ≡ last_taken k h
last_read k a h e = go (cases_eq a.site k)
  where
    go : (a.site ≡ k) ⊎ (a.site ≡ k → ⊥) → last_taken k (a ∷ h) ≡ last_taken k h
    go (inl s) =
        subst (λ (z : ℕ). last_taken z (a ∷ h) ≡ last_taken z h) s
        (last_here a h ∙ ap (λ (z : Code). value_with z a.value (last_taken a.site h)) e)
    go (inr n) = last_else k a h n

-- a longer history with no more operations of k has the same last value
last_more : (k : ℕ) (rest h : List Submission) → times k h ≡ times k (rest ++ h) → last_taken k (rest ++ h) ≡ last_taken k h
unfolding Lists.times
last_more k [] h e = refl
last_more k (x ∷ rest) h e = let ih = last_more k rest h in let m = Lists.times_more of k rest h in grind arith

last_same : (k : ℕ) (h h' : List Submission) → Ends h h' → times k h ≡ times k h' → last_taken k h' ≡ last_taken k h
last_same k h h' p = subst (λ (z : List Submission). times k h ≡ times k z → last_taken k z ≡ last_taken k h) p.1 (last_more k p.0 h)

pub last_none : (k : ℕ) (h : List Submission) → times k h ≡ 0 → last_taken k h ≡ None
unfolding Lists.times
last_none k [] e = refl
last_none k (x ∷ h) e = let ih = last_none k h in grind arith

-- two beginnings of one history with as many operations of k have the same last value
pub one_last : (k : ℕ) (a b c : List Submission) → Ends a c → Ends b c → times k a ≡ times k b → last_taken k a ≡ last_taken k b
one_last k a b c p q e = go (side a b c p q)
  where
    go : Ends a b ⊎ Ends b a → last_taken k a ≡ last_taken k b
    go (inl s) = sym (last_same k a b s e)
    go (inr s) = last_same k b a s (sym e)

-- a commit takes the operations up to its own off the list
has_snoc : (k : ℕ) (l : List Listed) (e : Listed) → has k (l ++ (e ∷ [])) ≡ (has k l || eqb e.site k)
has_snoc k [] e = go (eqb e.site k)
  where
    go : (b : Bool) → (b || false) ≡ (false || b)
    go true = refl
    go false = refl
has_snoc k (x ∷ l) e = ap (λ (z : Bool). eqb x.site k || z) (has_snoc k l e) ∙ go (eqb x.site k) (has k l) (eqb e.site k)
  where
    go : (a b c : Bool) → (a || (b || c)) ≡ ((a || b) || c)
    go true b c = refl
    go false b c = refl

after_snoc : (k : ℕ) (l : List Listed) (e : Listed) → after_last k (l ++ (e ∷ [])) ≡ cond (eqb e.site k) [] (after_last k l ++ (e ∷ []))
after_snoc k [] e = refl
after_snoc k (x ∷ l) e =
    ap (λ (z : Bool). cond z (after_last k (l ++ (e ∷ []))) (cond (eqb x.site k) (l ++ (e ∷ [])) (x ∷ (l ++ (e ∷ []))))) (has_snoc k l e)
    ∙ ap (λ (z : List Listed). cond (has k l || eqb e.site k) z (cond (eqb x.site k) (l ++ (e ∷ [])) (x ∷ (l ++ (e ∷ []))))) (after_snoc k l e)
    ∙ go (has k l) (eqb e.site k) (eqb x.site k)
  where
    go :
        (a b c : Bool)
        → cond (a || b) (cond b [] (after_last k l ++ (e ∷ []))) (cond c (l ++ (e ∷ [])) (x ∷ (l ++ (e ∷ []))))
        ≡ cond b [] (cond a (after_last k l) (cond c l (x ∷ l)) ++ (e ∷ []))
    go true true c = refl
    go true false c = refl
    go false true c = refl
    go false false true = refl
    go false false false = refl

pub after_past : (k : ℕ) (new : List Submission) → after_last k (entries_of new) ≡ entries_of (past k new)
unfolding Lists.past
after_past k [] = refl
after_past k (x ∷ new) =
    after_snoc k (entries_of new) (entry_of x)
    ∙ ap (λ (z : List Listed). cond (eqb x.site k) [] (z ++ (entry_of x ∷ []))) (after_past k new)
    ∙ go (eqb x.site k)
  where
    go : (b : Bool) → cond b [] (entries_of (past k new) ++ (entry_of x ∷ [])) ≡ entries_of (cond b [] (x ∷ past k new))
    go true = refl
    go false = refl
