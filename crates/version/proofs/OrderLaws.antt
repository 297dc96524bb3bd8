-- The order of versions: its laws, what a comparison tells, and the worked examples.
use Rattle.std.proofs.Common.{◌≡◌, ℕ, zero, suc, ◌<◌, ◌≤◌, Bool, true, false, List, [], None, Decides, unwrap_or, sym, refl, ap, ◌∙◌, subst, ⊎_elim, arith}
use Rattle.std.specs.Ordering.{partial_le, is_some_and, is_le}
use Rattle.std.proofs.lemmas.List.{ext_get_or}
use Rattle.std.proofs.lemmas.Bool.{cases_lt}
use Rattle.std.proofs.lemmas.Bool.Decides.{Decides-like, not_from_Decides}
use Rattle.version.specs.declared.version.Version.{Version}
use Rattle.version.specs.Compared.{under, both_ways, compared}
use Rattle.version.specs.ComparedLaws.{AllUnder, under_itself, tested, same_version}
use Rattle.version.specs.contracts.version.VersionPartialEq.TheImpl as version_eq
use Rattle.version.specs.Examples.{Examples, seen, pair}
use Rattle.version.specs.Order.{Slot, slot_with, unseen, slot_at, SlotAtOrBelow, AtOrBelow, Stands, order_of, PartialOrder}
use Rattle.version.specs.Version.{slots}
use Rattle.version.proofs.SlotLaws.{slots_length, slots_at}

slot_antisymmetric : (a b : Slot) → SlotAtOrBelow a b → SlotAtOrBelow b a → a ≡ b
slot_antisymmetric a b p q =
    let t : a.timestamp ≡ b.timestamp = omega (arith, p.stamp, q.stamp) in
    ap (λ x. slot_with x a.digest) t ∙ ap (slot_with b.timestamp) (p.told t)

slot_transitive : (a b c : Slot) → SlotAtOrBelow a b → SlotAtOrBelow b c → SlotAtOrBelow a c
slot_transitive a b c p q = record {
  stamp = omega (arith, p.stamp, q.stamp);
  told = λ e. p.told (omega (arith, p.stamp, q.stamp)) ∙ q.told (omega (arith, p.stamp, q.stamp));
}

pub at_or_below_laws : PartialOrder AtOrBelow
at_or_below_laws = record {
  reflexive = λ u. record { sizes = refl; sites = λ k h. record { stamp = omega arith; told = λ e. refl } };
  antisymmetric = λ u v p q.
      let n = p.sizes in
      ext_get_or unseen u v n (λ k h. slot_antisymmetric (slot_at u k) (slot_at v k) (p.sites k h) (q.sites k (omega arith)));
  transitive = λ u v w p q.
      let n = p.sizes in
      record { sizes = p.sizes ∙ q.sizes; sites = λ k h. slot_transitive (slot_at u k) (slot_at v k) (slot_at w k) (p.sites k h) (q.sites k (omega arith)) };
}

-- in any partial order, from whether each is at or below the other to the answer
stands : {A : Type 0} {R : A → A → Type 0} → PartialOrder R → (a b : A) (below above : Bool) → Decides below (R a b) → Decides above (R b a) → Stands R a b (order_of (both_ways below above))
stands L a b true true p q = L.antisymmetric a b (p.0 refl) (q.0 refl)
stands {R} L a b true false p q = (p.0 refl, λ e. not_from_Decides false q refl (subst (λ x. R x a) e (L.reflexive a)))
stands {R} L a b false true p q = (q.0 refl, λ e. not_from_Decides false p refl (subst (R a) e (L.reflexive a)))
stands L a b false false p q = (not_from_Decides false p refl, not_from_Decides false q refl)

-- at all places of the code's slots, or at those of the groups' size
placed : (u v : Version) → Decides (under u v) (AtOrBelow (slots u) (slots v))
placed u v =
    let n = slots_length u in
    let m = slots_length v in
    Decides-like (under u v)
    (λ h. record { sizes = omega (arith, h.0); sites = λ k l. rw (slots_at u k (omega arith), slots_at v k (omega (arith, h.0))) (h.1 k) })
    (λ h. let s = h.sizes in (
      omega arith,
      λ k. ⊎_elim
          (λ (l : k < u.size). rw (slots_at u k l, slots_at v k (omega arith)) at (h.sites k (omega arith)))
          (λ (g : u.size ≤ k). rw (v.bounded k (omega arith), u.bounded k g) (under_itself None))
          (cases_lt k u.size),
    ))
    (tested u v)

-- what `<=` tells of two versions
pub at_or_below : (u v : Version) → Decides (partial_le compared u v) (AtOrBelow (slots u) (slots v))
unfolding compared
at_or_below u v = first (under u v) (under v u) (placed u v)
  where
    first : (b c : Bool) → Decides b (AtOrBelow (slots u) (slots v)) → Decides (is_some_and is_le (both_ways b c)) (AtOrBelow (slots u) (slots v))
    first true true d = d
    first true false d = d
    first false true d = d
    first false false d = d

-- what `==` tells of two versions
pub equal : (u v : Version) → Decides ((version_eq.eq-value).it u v) (slots u ≡ slots v)
equal u v = Decides-like ((version_eq.eq-value).it u v) (λ h. at_or_below_laws.antisymmetric (slots u) (slots v) (below u v h.0) (below v u h.1)) (λ s. (all u v s, all v u (sym s))) (same_version u v)
  where
    below : (u v : Version) → AllUnder u v → AtOrBelow (slots u) (slots v)
    below u v h = (placed u v).0 ((tested u v).1 h)

    all : (u v : Version) → slots u ≡ slots v → AllUnder u v
    all u v s = (tested u v).0 ((placed u v).1 (subst (AtOrBelow (slots u)) s (at_or_below_laws.reflexive (slots u))))

-- what the comparison tells of two versions
pub compared_stands : (u v : Version) → Stands AtOrBelow (slots u) (slots v) (order_of (compared u v))
unfolding compared
compared_stands u v = stands at_or_below_laws (slots u) (slots v) (under u v) (under v u) (placed u v) (placed v u)

pub examples : Examples
examples = record {
  grown = λ d f. (pairs (kept (seen 1 d)) (new f), λ e. differ (ap (λ v. (slot_at v 1).timestamp) e));
  forked = λ d e f ne. (
    λ h. ne (ap (λ x. unwrap_or x []) ((h.sites 0 (omega arith)).told refl)),
    λ h. let s = (h.sites 1 (omega arith)).stamp in omega arith,
  );
  crossed = λ d e f. (
    λ h. let s = (h.sites 0 (omega arith)).stamp in omega arith,
    λ h. let s = (h.sites 1 (omega arith)).stamp in omega arith,
  );
  same = refl;
  first = λ d. (pairs (new d) (kept unseen), λ e. differ (ap (λ v. (slot_at v 0).timestamp) e));
}
  where
    differ : ◌≡◌ {A = ℕ} 0 1 → ⊥
    differ e = omega arith

    kept : (a : Slot) → SlotAtOrBelow a a
    kept a = record { stamp = omega arith; told = λ e. refl }

    new : (d : List ℕ) → SlotAtOrBelow unseen (seen 1 d)
    new d = record { stamp = omega arith; told = λ e. absurd (differ e) }

    pairs : {a b x y : Slot} → SlotAtOrBelow a x → SlotAtOrBelow b y → AtOrBelow (pair a b) (pair x y)
    pairs {a} {b} {x} {y} p q = record { sizes = refl; sites = each }
      where
        each : (k : ℕ) → k < 2 → SlotAtOrBelow (slot_at (pair a b) k) (slot_at (pair x y) k)
        each zero h = p
        each (suc zero) h = q
        each (suc (suc k)) h = absurd (omega arith)
