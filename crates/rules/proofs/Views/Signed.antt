-- Which operation a commit signature or a proof signature is of.
use Rattle.std.proofs.Common.{◌≡◌, ℕ, ◌<◌, ◌⊎◌, List, [], ◌∷◌, ◌++◌, unwrap_or, sym, refl, ap, ◌∙◌, inl, inr, arith}
use Rattle.octets.specs.Field.{good}
use Rattle.message.specs.Strings.{tag, commit_string, proof_string}
use Rattle.message.proofs.Tags.{strings_tell_apart}
use Rattle.version.specs.Layout.{version_field}
use Rattle.version.specs.Order.{Slot}
use Rattle.version.proofs.LayoutLaws.{version_law}
use Rattle.rules.specs.Group.{GroupState, Group, slot}
use Rattle.rules.specs.Finish.{Completion}
use Rattle.rules.specs.Runs.{Event, now}
use Rattle.rules.specs.Shown.{◌∈◌, Deed, began, completed, took, other, deed, completion_in, completions, Signing, signing, signed_in, signed}
use Rattle.rules.proofs.Lists.{in_left, in_right, in_cases}
use Rattle.rules.proofs.Reading.{GoodVersion}

pub same_site : {s t : Signing} → s ≡ t → s.site ≡ t.site
same_site e = ap (λ (z : Signing). z.site) e

pub same_text : {s t : Signing} → s ≡ t → s.text ≡ t.text
same_text e = ap (λ (z : Signing). z.text) e

abbrev commit_signing : Completion → Signing
commit_signing d = signing d.commit.site (commit_string d.commit.version) d.commit.commit_signature

abbrev proof_signing : Completion → Signing
proof_signing d =
    signing d.commit.site (proof_string (unwrap_or (slot d.commit.version d.commit.site).digest [])) d.commit.proof_signature

-- a signature that a begin made, and one that a finish made
abbrev AtBegin : Signing → Type 0
AtBegin s = (k : ℕ) × (rest : List ℕ) × (k < 2) × (s.text ≡ tag k ++ rest)

abbrev AtFinish : List Completion → Signing → Type 0
AtFinish ds s = (d : Completion) × (d ∈ ds) × ((s ≡ commit_signing d) ⊎ (s ≡ proof_signing d))

signed_by : (H : List ℕ → List ℕ) (x : GroupState) (k : Deed) (s : Signing) → s ∈ signed_in H x k → AtBegin s ⊎ AtFinish (completion_in k) s
signed_by H x (began q a) s (inl e) = inl (0, _, omega arith, same_text e)
signed_by H x (began q a) s (inr (inl e)) = inl (1, _, omega arith, same_text e)
signed_by H x (began q a) s (inr (inr m)) = absurd m
signed_by H x (completed d) s (inl e) = inr (d, inl refl, inl e)
signed_by H x (completed d) s (inr (inl e)) = inr (d, inl refl, inr e)
signed_by H x (completed d) s (inr (inr m)) = absurd m
signed_by H x (took t) s m = absurd m
signed_by H x other s m = absurd m

signed_where : (G : Group) (r : List Event) (s : Signing) → s ∈ signed G r → AtBegin s ⊎ AtFinish (completions r) s
signed_where G [] s m = absurd m
signed_where G (e ∷ r) s m = go (in_cases s new (signed G r) m) (signed_where G r s)
  where
    here : List Completion
    here = completion_in (deed e.call)

    new : List Signing
    new = signed_in G.setup.digest (now G r) (deed e.call)

    first : AtBegin s ⊎ AtFinish here s → AtBegin s ⊎ AtFinish (here ++ completions r) s
    first (inl b) = inl b
    first (inr f) = inr (f.0, in_left f.0 here (completions r) f.1, f.2)

    old : AtBegin s ⊎ AtFinish (completions r) s → AtBegin s ⊎ AtFinish (here ++ completions r) s
    old (inl b) = inl b
    old (inr f) = inr (f.0, in_right f.0 here (completions r) f.1, f.2)

    go : (s ∈ new) ⊎ (s ∈ signed G r) → (s ∈ signed G r → AtBegin s ⊎ AtFinish (completions r) s) → AtBegin s ⊎ AtFinish (here ++ completions r) s
    go (inl k) ih = first (signed_by G.setup.digest (now G r) (deed e.call) s k)
    go (inr k) ih = old (ih k)

-- strings of two kinds differ
pub kinds_differ : (j k : ℕ) (x y : List ℕ) → (j < 4) × (k < 4) × (j ≡ k → ⊥) → tag j ++ x ≡ tag k ++ y → ⊥
kinds_differ j k x y h e = h.2 (strings_tell_apart.kinds j k x y h.0 h.1 e)

begin_differs : (s : Signing) (k : ℕ) (x : List ℕ) → (1 < k) × (k < 4) → s.text ≡ tag k ++ x → AtBegin s → ⊥
begin_differs s k x h e b = let less = b.2 in kinds_differ b.0 k b.1 x (omega arith) (sym b.3 ∙ e)

version_same : (n : ℕ) (u v : List Slot) → GoodVersion n u → GoodVersion n v → commit_string u ≡ commit_string v → u ≡ v
version_same n u v g h e =
    let bytes : (version_field n).put u ≡ (version_field n).put v = cc in
    let back : good u [] ≡ good v [] =
    sym ((version_law n).there u [] g) ∙ ap (λ (l : List ℕ). (version_field n).get (l ++ [])) bytes ∙ (version_law n).there v [] h in
    cc

module _ (G : Group) (n : ℕ) (r : List Event) where
  -- a site signed as its commit only the version of an operation that it finished
  pub commit_signed :
      ((d : Completion) → d ∈ completions r → GoodVersion n d.commit.version) → (i : ℕ) (v : List Slot) (g : List ℕ) → GoodVersion n v
      → signing i (commit_string v) g ∈ signed G r
      → (d : Completion) × (d ∈ completions r) × (d.commit.site ≡ i) × (d.commit.version ≡ v)
  commit_signed goods i v g h m = go (signed_where G r s m)
    where
      s : Signing
      s = signing i (commit_string v) g

      Found : Type 0
      Found = (d : Completion) × (d ∈ completions r) × (d.commit.site ≡ i) × (d.commit.version ≡ v)

      go : AtBegin s ⊎ AtFinish (completions r) s → Found
      go (inl b) = absurd (begin_differs s 2 _ (omega arith) refl b)
      go (inr (d, k, inl e)) =
          (d, k, sym (same_site e), sym (version_same n v d.commit.version h (goods d k) (same_text e)))
      go (inr (d, k, inr e)) = absurd (kinds_differ 2 3 _ _ (omega arith) (same_text e))

  -- and as its proof only its own digest in such a version
  pub proof_signed :
      (i : ℕ) (b g : List ℕ) → signing i (proof_string b) g ∈ signed G r
      → (d : Completion) × (d ∈ completions r) × (d.commit.site ≡ i) × (unwrap_or (slot d.commit.version d.commit.site).digest [] ≡ b)
  proof_signed i b g m = go (signed_where G r s m)
    where
      s : Signing
      s = signing i (proof_string b) g

      Found : Type 0
      Found = (d : Completion) × (d ∈ completions r) × (d.commit.site ≡ i) × (unwrap_or (slot d.commit.version d.commit.site).digest [] ≡ b)

      go : AtBegin s ⊎ AtFinish (completions r) s → Found
      go (inl k) = absurd (begin_differs s 3 _ (omega arith) refl k)
      go (inr (d, k, inl e)) = absurd (kinds_differ 3 2 _ _ (omega arith) (same_text e))
      go (inr (d, k, inr e)) =
          (d, k, sym (same_site e), sym (strings_tell_apart.proofs b _ (same_text e)))
