-- The list without the last entry of a site and all before it.
use Rattle.std.proofs.Common.{◌≡◌, ℕ, zero, suc, ◌+◌, ◌<◌, Bool, true, false, ◌||◌, nat_eq, List, [], ◌∷◌, ◌++◌, map, length, get_or, take, drop, Some, None, Option, sym, refl, ◌∙◌, arith}
use Rattle.std.proofs.lemmas.List.{drop-map, map_push}
use Rattle.std.proofs.lemmas.Bool.{cond-true, cond-false, eq-eqb, ne_eqb}
use Rattle.message.specs.declared.reply_parts.ListEntry.{ListEntry}
use Rattle.message.specs.Replied.{entered}
use Rattle.message.specs.Reply.{Listed}
use Rattle.rules.specs.Group.{HostState}
use Rattle.rules.specs.Taking.{has, after_last}

module _ (g s : ℕ) (d : ListEntry) where
  -- no entry of the site
  has_none : (es : List ListEntry) → ((k : ℕ) → k < length es → (get_or es k d).site ≡ s → ⊥) → has s (map (entered g) es) ≡ false
  has_none [] none = refl
  has_none (e ∷ es) none = rw (ne_eqb e.site s (none 0 (omega arith))) (has_none es (λ k lt. none (suc k) (omega arith)))

  pub last_none : (es : List ListEntry) → ((k : ℕ) → k < length es → (get_or es k d).site ≡ s → ⊥) → after_last s (map (entered g) es) ≡ map (entered g) es
  last_none [] none = refl
  last_none (e ∷ es) none =
      cond-false _ _ _ (has_none es (λ k lt. none (suc k) (omega arith))) ∙ cond-false _ _ _ (ne_eqb e.site s (none 0 (omega arith)))

  -- the last one at i
  has_some : (es : List ListEntry) (i : ℕ) → i < length es → (get_or es i d).site ≡ s → has s (map (entered g) es) ≡ true
  has_some [] i lt here = absurd (omega arith)
  has_some (e ∷ es) zero lt here = rw (eq-eqb e.site s here)
  has_some (e ∷ es) (suc i) lt here = rw (has_some es i (omega arith) here) (or_true (nat_eq e.site s))
    where
      or_true : (b : Bool) → (b || true) ≡ true
      or_true true = refl
      or_true false = refl

  pub last_at : (es : List ListEntry) (i : ℕ) → i < length es → (get_or es i d).site ≡ s → ((k : ℕ) → i < k → k < length es → (get_or es k d).site ≡ s → ⊥)
      → drop (i + 1) (map (entered g) es) ≡ after_last s (map (entered g) es)
  last_at [] i lt here none = absurd (omega arith)
  last_at (e ∷ es) zero lt here none =
      sym (cond-false _ _ _ (has_none es (λ k l. none (suc k) (omega arith) (omega arith))) ∙ cond-true _ _ _ (eq-eqb e.site s here))
  last_at (e ∷ es) (suc i) lt here none =
      let z : suc i + 1 ≡ suc (i + 1) = omega arith in
      rw z (last_at es i (omega arith) here (λ k l m. none (suc k) (omega arith) (omega arith)) ∙ sym (cond-true _ _ _ (has_some es i (omega arith) here)))

module _ (g s : ℕ) (d : ListEntry) (es : List ListEntry) where
  -- the entries through the one found from the end, or none
  pub last_through : (found : Option ℕ) (end : ℕ) → (found ≡ None → end ≡ 0) → ((i : ℕ) → found ≡ Some i → end ≡ i + 1)
      → (found ≡ None → (k : ℕ) → k < length es → (get_or es k d).site ≡ s → ⊥)
      → ((i : ℕ) → found ≡ Some i → i < length es)
      → ((i : ℕ) → found ≡ Some i → (get_or es i d).site ≡ s)
      → ((i : ℕ) → found ≡ Some i → (k : ℕ) → i < k → k < length es → (get_or es k d).site ≡ s → ⊥)
      → drop end (map (entered g) es) ≡ after_last s (map (entered g) es)
  last_through None end empty one none inside here after = rw (empty refl) (sym (last_none g s d es (none refl)))
  last_through (Some i) end empty one none inside here after = rw (one i refl) (last_at g s d es i (inside i refl) (here i refl) (after i refl))

-- the list that is left where all entries up to that one go
pub drained : (g s end : ℕ) (es left : List ListEntry) → left ≡ take 0 es ++ drop end es → drop end (map (entered g) es) ≡ after_last s (map (entered g) es)
    → ◌≡◌ {A = HostState} (record { committer = s; list = map (entered g) left }) (record { committer = s; list = after_last s (map (entered g) es) })
drained g s end es left is rest =
    let e : map (entered g) left ≡ after_last s (map (entered g) es) = rw is (sym (drop-map (entered g) end es) ∙ rest) in
    rw e

-- the list with one entry more behind the others
pub pushed : (g committer : ℕ) (es more : List ListEntry) (e : ListEntry) (l : Listed) → more ≡ es ++ (e ∷ []) → entered g e ≡ l
    → ◌≡◌ {A = HostState} (record { committer = committer; list = map (entered g) more }) (record { committer = committer; list = map (entered g) es ++ (l ∷ []) })
pushed g committer es more e l is listed = rw (is, map_push (entered g) es e, listed)
