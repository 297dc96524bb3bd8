-- Versions stand as their view histories do.
use Rattle.std.proofs.Common.{◌≡◌, ℕ, ◌⊎◌, ◌↔◌, List, length, sym, ap, ◌∙◌, subst, inl, inr, arith}
use Rattle.std.proofs.lemmas.Bool.{cases_eq}
use Rattle.version.specs.Order.{AtOrBelow, SlotAtOrBelow}
use Rattle.rules.specs.Group.{Setup, slot}
use Rattle.rules.specs.Finish.{Completion}
use Rattle.rules.specs.Shown.{◌∈◌}
use Rattle.rules.proofs.Lists.{Ends, ends_trans, times, cut, times_cut, cut_ends}
use Rattle.rules.proofs.Slots.{at_or_below_at}
use Rattle.rules.proofs.Fitting.{D, fits_le}
use Rattle.rules.proofs.Views.Accepted.{Chain}
use Rattle.rules.proofs.Views.Names.{itself}
use Rattle.rules.proofs.Views.Digests.{Apart, told_ends, same_history}
use Rattle.rules.proofs.Views.Once.{own_time, own_some, once}
use Rattle.rules.proofs.Views.Tracking.{Good}
use Rattle.rules.proofs.Views.Linked.{Link, Linked, linked_at}

module _
    (p : Setup)
    (wide : (bs : List ℕ) → length (p.digest bs) ≡ 32)
    (h : Completion → List ℕ)
    (S : List (List ℕ))
    (apart : Apart p.digest S)
    (R : List Completion)
    (chain : Chain p R)
    (good : (d : Completion) → d ∈ R → Good p h S d)
    (linked : (d : Completion) → d ∈ R → Linked h R (h d))
  where
    own_times : (d : Completion) → d ∈ R → own_time d ≡ times itself d.commit.site (h d)
    own_times d m = ((good d m).fits d.commit.site).0

    -- A version at or below another counts no more operations of its own site. With as many, the digests tell that its history is the
    -- other's up to the last of these; with fewer, the next one in the other's history goes on from it.
    le_ends : (d o : Completion) → d ∈ R → o ∈ R → AtOrBelow d.commit.version o.commit.version → Ends (h d) (h o)
    unfolding times
    le_ends d o m k le = go (cases_eq (times itself i (h d)) (times itself i (h o)))
      where
        i : ℕ
        i = d.commit.site

        at : SlotAtOrBelow (slot d.commit.version i) (slot o.commit.version i)
        at = at_or_below_at d.commit.version o.commit.version le i

        later : (f : List ℕ) → Ends f (h o) → times itself i f ≡ times itself i (h d) → Link h R i f → Ends (h d) (h o)
        later f ends t (inl none) =
            let c = times_cut itself i f in
            let some = own_some p R chain d m in
            let own = own_times d m in
            absurd (grind arith)
        later f ends t (inr (u, n, s, e)) =
            let own : own_time u ≡ times itself i (h u) = own_times u n ∙ ap (λ (k : ℕ). times itself k (h u)) s in
            let one : u ≡ d = once p R chain u d n m s (own ∙ ap (times itself i) e ∙ times_cut itself i f ∙ t ∙ sym (own_times d m)) in
            ends_trans (h d) f (h o) (subst (λ (l : List ℕ). Ends l f) (sym e ∙ ap h one) (cut_ends itself i f)) ends

        go : (times itself i (h d) ≡ times itself i (h o)) ⊎ (times itself i (h d) ≡ times itself i (h o) → ⊥) → Ends (h d) (h o)
        go (inl e) =
            let stamps = ((good d m).fits i).0 ∙ e ∙ sym ((good o k).fits i).0 in
            let digests : D p.digest itself (h d) ≡ D p.digest itself (cut itself i (h o)) = sym (good d m).own ∙ at.told stamps ∙ ((good o k).fits i).1 in
            let told = told_ends p.digest S (cut itself i (h o)) (h o) (cut_ends itself i (h o)) (good o k).told in
            let same : h d ≡ cut itself i (h o) = same_history p.digest wide S apart (h d) (cut itself i (h o)) (good d m).told told digests in
            subst (λ (l : List ℕ). Ends l (h o)) (sym same) (cut_ends itself i (h o))
        go (inr n) =
            let w = linked_at h R i (times itself i (h d)) (h o) (linked o k) (omega (arith, n, at.stamp, ((good d m).fits i).0, ((good o k).fits i).0)) in
            later w.0 w.1 w.2 w.3

    pub le_as_ends : (d o : Completion) → d ∈ R → o ∈ R → AtOrBelow d.commit.version o.commit.version ↔ Ends (h d) (h o)
    le_as_ends d o m k = (
      le_ends d o m k,
      fits_le p.digest itself d.commit.version o.commit.version (h d) (h o) ((good d m).long ∙ sym (good o k).long) (good d m).fits (good o k).fits,
    )
