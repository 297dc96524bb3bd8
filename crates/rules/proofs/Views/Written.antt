-- The value that a site last wrote among its first operations.
use Rattle.std.proofs.Common.{◌≡◌, ℕ, zero, suc, ◌+◌, ◌≤◌, Bool, true, false, cond, eqb, List, [], ◌∷◌, ◌++◌, Some, None, Option, sym, refl, ap, ◌∙◌, ap₂, inl, inr, add-one, arith}
use Rattle.std.specs.Option.{option_map}
use Rattle.std.proofs.lemmas.Bool.{eqb-true, eq-eqb, cond-true, cond-false}
use Rattle.message.specs.Submit.{Submission}
use Rattle.rules.specs.Finish.{Operation}
use Rattle.rules.specs.Shown.{◌∈◌, listed}
use Rattle.rules.specs.History.{operation, same_operation, written_by, or_else, last_written}
use Rattle.rules.proofs.Lists.{times}
use Rattle.rules.proofs.Views.Names.{itself, named}
use Rattle.rules.proofs.Views.Sites.{begun_by}

-- the value that the site i last wrote in its first t operations, absent if none
abbrev pub latest : List Submission → ℕ → ℕ → Option (List ℕ)
latest subs i zero = None
latest subs i (suc t) = or_else (written_by subs (operation i (suc t))) (latest subs i t)

or_else_none : (u : Option (List ℕ)) → or_else u None ≡ u
or_else_none None = refl
or_else_none (Some x) = refl

or_else-or_else : (u v w : Option (List ℕ)) → or_else (or_else u v) w ≡ or_else u (or_else v w)
or_else-or_else None v w = refl
or_else-or_else (Some x) v w = refl

module _ (subs : List Submission) (j : ℕ) where
  abbrev wrote : Operation → Option (List ℕ)
  wrote o = cond (eqb o.site j) (written_by subs o) None

  last_written_last : (h : List Operation) (o : Operation) → last_written subs j (h ++ (o ∷ [])) ≡ or_else (wrote o) (last_written subs j h)
  last_written_last [] o = sym (or_else_none (wrote o))
  last_written_last (x ∷ h) o =
      ap (λ (u : Option (List ℕ)). or_else u (wrote x)) (last_written_last h o) ∙ or_else-or_else (wrote o) (last_written subs j h) (wrote x)

  -- in a history that is what it wrote in so many operations as are there
  pub last_written-named : (h : List ℕ) → last_written subs j (named h) ≡ latest subs j (times itself j h)
  unfolding named times
  last_written-named [] = refl
  last_written-named (k ∷ h) = last_written_last (named h) o ∙ go (eqb k j) refl (last_written-named h)
    where
      o : Operation
      o = operation k (times itself k h + 1)

      go : (b : Bool) → eqb k j ≡ b → last_written subs j (named h) ≡ latest subs j (times itself j h)
          → or_else (cond b (written_by subs o) None) (last_written subs j (named h)) ≡ latest subs j (cond b (suc (times itself j h)) (times itself j h))
      go true y ih =
          let same : o ≡ operation j (suc (times itself j h)) =
          ap (λ (z : ℕ). operation z (times itself z h + 1)) (eqb-true k j y) ∙ ap (operation j) (add-one (times itself j h)) in
          ap₂ or_else (ap (written_by subs) same) ih
      go false y ih = ih

-- a value last written is one of those written
module _ (S : List (List ℕ)) where
  abbrev pub Within : Option (List ℕ) → Type 0
  Within v = (x : List ℕ) → x ∈ listed v → x ∈ S

  within_cond : (b : Bool) (u v : Option (List ℕ)) → Within u → Within v → Within (cond b u v)
  within_cond true u v m k = m
  within_cond false u v m k = k

  within_or_else : (u v : Option (List ℕ)) → Within u → Within v → Within (or_else u v)
  within_or_else None v m k = k
  within_or_else (Some x) v m k = m

  written_within : (subs : List Submission) → ((a : Submission) → a ∈ subs → Within a.value) → (t : Operation) → Within (written_by subs t)
  written_within [] m t = λ x k. absurd k
  written_within (a ∷ subs) m t =
      within_cond (same_operation (operation a.site a.timestamp) t) a.value (written_by subs t) (m a (inl refl)) (written_within subs (λ b k. m b (inr k)) t)

  pub latest_within : (subs : List Submission) → ((a : Submission) → a ∈ subs → Within a.value) → (i t : ℕ) → Within (latest subs i t)
  latest_within subs m i zero = λ x k. absurd k
  latest_within subs m i (suc t) =
      within_or_else (written_by subs (operation i (suc t))) (latest subs i t) (written_within subs m (operation i (suc t))) (latest_within subs m i t)

-- the site's next operation
abbrev pub Next : List Submission → Submission → Type 0
Next subs a = a.timestamp ≡ suc (begun_by a.site subs)

begun_more : (subs : List Submission) (a : Submission) (i : ℕ) → begun_by i subs ≤ begun_by i (a ∷ subs)
begun_more subs a i = grind arith

-- it changes nothing of those before it
latest_old : (subs : List Submission) (a : Submission) (i t : ℕ) → Next subs a → t ≤ begun_by i subs → latest (a ∷ subs) i t ≡ latest subs i t
latest_old subs a i zero next less = refl
latest_old subs a i (suc t) next less =
    ap₂ or_else (cond-false (same_operation (operation a.site a.timestamp) (operation i (suc t))) _ _ (grind arith)) (latest_old subs a i t next (omega arith))

-- and what it wrote is then the last
pub latest_new : (subs : List Submission) (a : Submission) → Next subs a
    → latest (a ∷ subs) a.site (begun_by a.site (a ∷ subs)) ≡ or_else a.value (latest subs a.site (begun_by a.site subs))
latest_new subs a next =
    let i = a.site in
    let more : begun_by i (a ∷ subs) ≡ suc (begun_by i subs) = cond-true _ _ _ (eq-eqb i i refl) in
    ap (latest (a ∷ subs) i) more
    ∙ ap₂ or_else (cond-true (same_operation (operation i a.timestamp) (operation i (suc (begun_by i subs)))) _ _ (grind arith))
    (latest_old subs a i (begun_by i subs) next (omega arith))

-- the digest d is that of the value which the site i last wrote in its first t operations, which are begun
pub record Known (H : List ℕ → List ℕ) (subs : List Submission) (i t : ℕ) (d : Option (List ℕ)) : Type 0 where
  pub begun : t ≤ begun_by i subs
  pub last : d ≡ option_map H (latest subs i t)

pub known_more : (H : List ℕ → List ℕ) (subs : List Submission) (a : Submission) (i t : ℕ) (d : Option (List ℕ)) → Next subs a → Known H subs i t d → Known H (a ∷ subs) i t d
known_more H subs a i t d next k = record {
  begun = let m = begun_more subs a i in omega (arith, k.begun);
  last = k.last ∙ ap (option_map H) (sym (latest_old subs a i t next k.begun));
}
