-- Where no two digested strings collide, a digest tells what was digested: a history, and a value.
use Rattle.std.proofs.Common.{◌≡◌, ℕ, ◌⊎◌, List, [], ◌∷◌, ◌++◌, length, Some, None, Option, unwrap_or, sym, refl, ap, subst, inl, inr, arith}
use mathlib.Core.List.{List-discrete}
use native.Mathlib.Decide.{ℕ_discrete}
use Rattle.std.specs.Option.{option_map}
use Rattle.rules.specs.Group.{Group}
use Rattle.rules.specs.Running.{link}
use Rattle.rules.specs.Runs.{Event}
use Rattle.rules.specs.Shown.{◌∈◌, digested, listed}
use Rattle.rules.specs.Law.{Collision}
use Rattle.rules.proofs.Lists.{Ends, all_cons}
use Rattle.rules.proofs.Fitting.{D}
use Rattle.rules.proofs.Views.Names.{itself}

-- of two statements of which one holds of each item, the first holds of some item or the second of all
some_or_all : {A : Type 0} (P Q : A → Type 0) → ((x : A) → P x ⊎ Q x) → (l : List A) → ((x : A) × (x ∈ l) × P x) ⊎ ((x : A) → x ∈ l → Q x)
some_or_all P Q d [] = inr (λ x m. absurd m)
some_or_all {A} P Q d (y ∷ l) = go (d y) (some_or_all P Q d l)
  where
    go : P y ⊎ Q y → ((x : A) × (x ∈ l) × P x) ⊎ ((x : A) → x ∈ l → Q x) → ((x : A) × (x ∈ (y ∷ l)) × P x) ⊎ ((x : A) → x ∈ (y ∷ l) → Q x)
    go (inl p) r = inl (y, inl refl, p)
    go (inr q) (inl s) = inl (s.0, inr s.1, s.2)
    go (inr q) (inr a) = inr (all_cons Q y l q a)

-- the last item can be taken off again
last_off : (s t : List ℕ) (x y : ℕ) → s ++ (x ∷ []) ≡ t ++ (y ∷ []) → (s ≡ t) × (x ≡ y)
last_off [] [] x y e = grind arith
last_off [] (b ∷ []) x y e = grind arith
last_off [] (b ∷ (c ∷ t)) x y e = grind arith
last_off (a ∷ []) [] x y e = grind arith
last_off (a ∷ (c ∷ s)) [] x y e = grind arith
last_off (a ∷ s) (b ∷ t) x y e = let ih = last_off s t x y in grind arith

module _ (H : List ℕ → List ℕ) where
  -- no two of these strings collide
  abbrev pub Apart : List (List ℕ) → Type 0
  Apart S = (x : List ℕ) → x ∈ S → (y : List ℕ) → y ∈ S → H x ≡ H y → x ≡ y

  abbrev Collide : List ℕ → List ℕ → Type 0
  Collide x y = (x ≡ y → ⊥) × (H x ≡ H y)

  collide_or_not : (x y : List ℕ) → Collide x y ⊎ (H x ≡ H y → x ≡ y)
  collide_or_not x y = go (List-discrete ℕ_discrete x y) (List-discrete ℕ_discrete (H x) (H y))
    where
      go : Dec (x ≡ y) → Dec (H x ≡ H y) → Collide x y ⊎ (H x ≡ H y → x ≡ y)
      go (yes e) d = inr (λ _. e)
      go (no n) (yes e) = inl (n, e)
      go (no n) (no m) = inr (λ e. absurd (m e))

  -- the strings digested for a history are among these
  abbrev pub Told : List (List ℕ) → List ℕ → Type 0
  Told S [] = Unit {0}
  Told S (k ∷ h) = (link (D H itself h) k ∈ S) × Told S h

  pub told_ends : (S : List (List ℕ)) (h h' : List ℕ) → Ends h h' → Told S h' → Told S h
  told_ends S h h' p t = go p.0 (subst (Told S) (sym p.1) t)
    where
      go : (rest : List ℕ) → Told S (rest ++ h) → Told S h
      go [] t = t
      go (x ∷ rest) t = go rest t.1

  pub no_digest : (h : List ℕ) → D H itself h ≡ None → h ≡ []
  no_digest [] e = refl
  no_digest (k ∷ h) e = cc

  module _ (wide : (bs : List ℕ) → length (H bs) ≡ 32) (S : List (List ℕ)) (apart : Apart S) where
    -- a digest is known from its bytes
    digest_of : (h h' : List ℕ) → unwrap_or (D H itself h) [] ≡ unwrap_or (D H itself h') [] → D H itself h ≡ D H itself h'
    digest_of [] [] e = refl
    digest_of [] (k ∷ h) e = absurd (omega (arith, wide (link (D H itself h) k), ap length e))
    digest_of (k ∷ h) [] e = absurd (omega (arith, wide (link (D H itself h) k), ap length e))
    digest_of (k ∷ h) (k' ∷ h') e = ap Some e

    pub same_history : (h h' : List ℕ) → Told S h → Told S h' → D H itself h ≡ D H itself h' → h ≡ h'
    same_history [] h' t t' e = sym (no_digest h' (sym e))
    same_history (k ∷ h) [] t t' e = no_digest (k ∷ h) e
    same_history (k ∷ h) (k' ∷ h') t t' e =
        let same : H (link (D H itself h) k) ≡ H (link (D H itself h') k') = cc in
        let parts = last_off (unwrap_or (D H itself h) []) (unwrap_or (D H itself h') []) k k' (apart _ t.0 _ t'.0 same) in
        let below : h ≡ h' = same_history h h' t.1 t'.1 (digest_of h h' parts.0) in
        let first : k ≡ k' = parts.1 in
        cc

    -- a value is known from its digest
    pub same_value : (u v : Option (List ℕ)) → ((x : List ℕ) → x ∈ listed u → x ∈ S) → ((x : List ℕ) → x ∈ listed v → x ∈ S) → option_map H u ≡ option_map H v → u ≡ v
    same_value None None a b e = refl
    same_value None (Some y) a b e = cc
    same_value (Some x) None a b e = cc
    same_value (Some x) (Some y) a b e = let same : H x ≡ H y = cc in ap Some (apart x (a x (inl refl)) y (b y (inl refl)) same)

pub collision_or_apart : (G : Group) (r : List Event) → Collision G r ⊎ Apart G.setup.digest (digested G.setup.digest r)
collision_or_apart G r = go (some_or_all SomeOne All row S)
  where
    H : List ℕ → List ℕ
    H = G.setup.digest

    S : List (List ℕ)
    S = digested H r

    SomeOne : List ℕ → Type 0
    SomeOne x = (y : List ℕ) × (y ∈ S) × Collide H x y

    All : List ℕ → Type 0
    All x = (y : List ℕ) → y ∈ S → H x ≡ H y → x ≡ y

    row : (x : List ℕ) → SomeOne x ⊎ All x
    row x = some_or_all (Collide H x) (λ y. H x ≡ H y → x ≡ y) (collide_or_not H x) S

    go : ((x : List ℕ) × (x ∈ S) × SomeOne x) ⊎ ((x : List ℕ) → x ∈ S → All x) → Collision G r ⊎ Apart H S
    go (inl (x, m, (y, k, (n, e)))) = inl (record { one = x; two = y; digested_one = m; digested_two = k; differ = n; collide = e })
    go (inr a) = inr a
