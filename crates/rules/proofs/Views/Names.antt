-- A history of operations, oldest first, by the list of its sites, newest first.
use Rattle.std.proofs.Common.{◌≡◌, ℕ, suc, ◌+◌, cond, eqb, ◌↔◌, List, [], ◌∷◌, ◌++◌, sym, refl, ap, ◌∙◌, subst, append_assoc, append-nil, arith}
use Rattle.message.specs.Reply.{Listed}
use Rattle.rules.specs.Finish.{Operation}
use Rattle.rules.specs.History.{operation, count, extended, extended_by, Front}
use Rattle.rules.proofs.Lists.{Ends, times}

abbrev pub itself : ℕ → ℕ
itself k = k

-- each operation has its site and its place among those of its site
unfoldable pub named : List ℕ → List Operation
named [] = []
named (k ∷ h) = named h ++ (operation k (times itself k h + 1) ∷ [])

-- the sites with those of a list's entries
abbrev pub onto : List Listed → List ℕ → List ℕ
onto [] h = h
onto (e ∷ es) h = onto es (e.site ∷ h)

count_last : (k : ℕ) (o : Operation) (h : List Operation) → count k (h ++ (o ∷ [])) ≡ cond (eqb o.site k) (suc (count k h)) (count k h)
count_last k o [] = grind arith
count_last k o (x ∷ h) = let ih = count_last k o h in grind arith

pub count_named : (k : ℕ) (h : List ℕ) → count k (named h) ≡ times itself k h
unfolding named times
count_named k [] = refl
count_named k (j ∷ h) = let ih = count_named k h in let last = count_last k (operation j (times itself j h + 1)) (named h) in grind arith

pub extended_named : (h : List ℕ) (k : ℕ) → extended (named h) k ≡ named (k ∷ h)
unfolding named
extended_named h k = ap (λ (t : ℕ). named h ++ (operation k (t + 1) ∷ [])) (count_named k h)

pub extended_by-named : (h : List ℕ) (es : List Listed) → extended_by (named h) es ≡ named (onto es h)
extended_by-named h [] = refl
extended_by-named h (e ∷ es) = ap (λ (l : List Operation). extended_by l es) (extended_named h e.site) ∙ extended_by-named (e.site ∷ h) es

-- the sites of a history
sites : List Operation → List ℕ
sites [] = []
sites (o ∷ h) = sites h ++ (o.site ∷ [])

sites_append : (h h' : List Operation) → sites (h ++ h') ≡ sites h' ++ sites h
unfolding sites
sites_append [] h' = sym (append-nil (sites h'))
sites_append (o ∷ h) h' = ap (λ (l : List ℕ). l ++ (o.site ∷ [])) (sites_append h h') ∙ append_assoc (sites h') (sites h) (o.site ∷ [])

sites_named : (h : List ℕ) → sites (named h) ≡ h
unfolding sites named
sites_named [] = refl
sites_named (k ∷ h) = sites_append (named h) (operation k (times itself k h + 1) ∷ []) ∙ ap (λ (l : List ℕ). k ∷ l) (sites_named h)

-- a history begins another exactly when its sites begin the other's
pub front_named : (h h' : List ℕ) → Ends h h' ↔ Front (named h) (named h')
unfolding named
front_named h h' = (to, from)
  where
    grow : (rest : List ℕ) → Front (named h) (named (rest ++ h))
    grow [] = ([], append-nil (named h))
    grow (k ∷ rest) =
        let w = grow rest in
        let last : List Operation = operation k (times itself k (rest ++ h) + 1) ∷ [] in
        (w.0 ++ last, sym (append_assoc (named h) w.0 last) ∙ ap (λ (l : List Operation). l ++ last) w.1)

    to : Ends h h' → Front (named h) (named h')
    to p = subst (λ (l : List ℕ). Front (named h) (named l)) p.1 (grow p.0)

    from : Front (named h) (named h') → Ends h h'
    from p = (
      sites p.0,
      ap (λ (l : List ℕ). sites p.0 ++ l) (sym (sites_named h)) ∙ sym (sites_append (named h) p.0) ∙ ap sites p.1 ∙ sites_named h',
    )
