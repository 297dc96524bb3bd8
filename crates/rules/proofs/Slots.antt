-- A version site by site.
use Rattle.std.proofs.Common.{◌≡◌, ℕ, zero, suc, ◌-◌, ◌<◌, ◌≤◌, ◌⊎◌, List, [], ◌∷◌, length, get_or, set, replicate, sym, refl, ap, subst, inl, inr, arith, length-set, get_or-set_other, get_or-set_same}
use lib.ListN.{length-replicate}
use Rattle.std.proofs.lemmas.Bool.{cases_eq}
use Rattle.version.specs.Order.{Slot, unseen, slot_at, AtOrBelow, SlotAtOrBelow}
use Rattle.rules.specs.Group.{slot, with_slot, zeros, Member}

-- a slot by its place
pub slot_place : (v : List Slot) (i : ℕ) → 1 ≤ i → slot v i ≡ slot_at v (i - 1)
slot_place v zero h = absurd (omega arith)
slot_place v (suc k) h = let e : suc k - 1 ≡ k = omega arith in rw e

pub with_slot-place : (v : List Slot) (i : ℕ) (s : Slot) → 1 ≤ i → with_slot v i s ≡ set v (i - 1) s
with_slot-place v zero s h = absurd (omega arith)
with_slot-place v (suc k) s h = let e : suc k - 1 ≡ k = omega arith in rw e

pub length-with_slot : (v : List Slot) (i : ℕ) (s : Slot) → length (with_slot v i s) ≡ length v
length-with_slot v zero s = refl
length-with_slot v (suc k) s = length-set v k s

-- what is set is there, and the rest stays
pub slot-set-same : (v : List Slot) (i : ℕ) (s : Slot) → 1 ≤ i → i ≤ length v → slot (with_slot v i s) i ≡ s
slot-set-same v zero s h l = absurd (omega arith)
slot-set-same v (suc k) s h l = get_or-set_same v k s unseen (omega arith)

pub slot_set_other : (v : List Slot) (i j : ℕ) (s : Slot) → (i ≡ j → ⊥) → slot (with_slot v i s) j ≡ slot v j
slot_set_other v zero j s n = refl
slot_set_other v (suc k) zero s n = refl
slot_set_other v (suc k) (suc j) s n = get_or-set_other v k j s unseen (λ e. n (ap suc (sym e)))

get_or_zeros : (n j : ℕ) → get_or (replicate n unseen) j unseen ≡ unseen
get_or_zeros zero j = refl
get_or_zeros (suc n) zero = refl
get_or_zeros (suc n) (suc j) = get_or_zeros n j

pub slot_zeros : (n i : ℕ) → slot (zeros n) i ≡ unseen
slot_zeros n zero = refl
slot_zeros n (suc j) = get_or_zeros n j

pub length-zeros : (n : ℕ) → length (zeros n) ≡ n
length-zeros n = length-replicate n unseen

-- past its end a version says nothing
pub slot_past : (v : List Slot) (i : ℕ) → length v < i → slot v i ≡ unseen
slot_past v zero h = absurd (omega arith)
slot_past [] (suc k) h = refl
slot_past (s ∷ v) (suc zero) h = absurd (omega arith)
slot_past (s ∷ v) (suc (suc k)) h = slot_past v (suc k) (omega arith)

-- two versions of one size that say the same of each site are equal
pub same_slots : (u v : List Slot) → length u ≡ length v → ((i : ℕ) → slot u i ≡ slot v i) → u ≡ v
same_slots [] [] l h = refl
same_slots [] (b ∷ v) l h = absurd (omega arith)
same_slots (a ∷ u) [] l h = absurd (omega arith)
same_slots (a ∷ u) (b ∷ v) l h =
    let first : a ≡ b = h 1 in
    let rest : u ≡ v = same_slots u v (omega arith) below in
    cc
  where
    below : (i : ℕ) → slot u i ≡ slot v i
    below zero = refl
    below (suc k) = h (suc (suc k))

-- at or below, site by site
pub at_or_below_from : (u v : List Slot) → length u ≡ length v → ((i : ℕ) → SlotAtOrBelow (slot u i) (slot v i)) → AtOrBelow u v
at_or_below_from u v l h = record { sizes = l; sites = λ k less. h (suc k) }

pub at_or_below_at : (u v : List Slot) → AtOrBelow u v → (i : ℕ) → SlotAtOrBelow (slot u i) (slot v i)
at_or_below_at u v le zero = record { stamp = omega arith; told = λ e. refl }
at_or_below_at u v le (suc k) = go (Rattle.std.proofs.lemmas.Bool.cases_lt k (length u))
  where
    go : (k < length u) ⊎ (length u ≤ k) → SlotAtOrBelow (slot_at u k) (slot_at v k)
    go (inl less) = le.sites k less
    go (inr more) =
        let a : slot u (suc k) ≡ unseen = slot_past u (suc k) (omega arith) in
        let b : slot v (suc k) ≡ unseen = slot_past v (suc k) (omega (arith, le.sizes)) in
        subst (λ (z : Slot). SlotAtOrBelow z (slot_at v k)) (sym a)
        (subst (λ (z : Slot). SlotAtOrBelow unseen z) (sym b) (record { stamp = omega arith; told = λ e. refl }))

-- of a site that the group does not have nothing is counted
pub slot_outside : (v : List Slot) (i : ℕ) → (Member (length v) i → ⊥) → slot v i ≡ unseen
slot_outside v zero h = refl
slot_outside v (suc k) h = go (Rattle.std.proofs.lemmas.Bool.cases_lt k (length v))
  where
    go : (k < length v) ⊎ (length v ≤ k) → slot v (suc k) ≡ unseen
    go (inl less) = absurd (h (omega arith, omega arith))
    go (inr more) = slot_past v (suc k) (omega arith)
