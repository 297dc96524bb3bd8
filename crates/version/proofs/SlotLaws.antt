-- The slots of a version, one by one.
use Rattle.std.proofs.Common.{◌≡◌, ℕ, zero, suc, ◌-◌, ◌<◌, ◌≤◌, List, ◌++◌, length, get_or, set, map, take, replicate, Some, None, Option, Err, Result, ◌+◌, sym, refl, ap, ◌∙◌, ⊎_elim, zero-add, arith}
use Rattle.std.specs.Option.{MatchOption, IsSomeAnd, SomeIff, ok_or}
use Rattle.std.proofs.lemmas.List.FromFn.{length-map-range_with_len, get_or-map-range_with_len}
use Rattle.std.proofs.lemmas.List.{ext_get_or, get_or_default, length-map, length-take-le, take_at, get_or-map, get_or-take, length-replicate, get_or-replicate, length-set, get_or-set_same, get_or-set_other}
use Rattle.std.proofs.lemmas.Bool.{cases_eq, cases_lt}
use Rattle.version.specs.declared.refusal.Refusal.{Refusal}
use Rattle.version.specs.declared.refusal.Refusal.TheVariants.{TimestampLimit}
use Rattle.version.specs.declared.seen.Seen.{Seen}
use Rattle.version.specs.declared.version.Version.{Version}
use Rattle.version.specs.Calls.{Site, slot}
use Rattle.version.specs.Order.{Slot, unseen, slot_at}
use Rattle.version.specs.Version.{slot_from, slot_of, slots, OneForm}

-- a place of an array of nones
pub get_D_none : {A : Type 0} (n k : ℕ) (a : A) → get_or (replicate n a) k a ≡ a
get_D_none zero k a = refl
get_D_none (suc n) zero a = refl
get_D_none (suc n) (suc k) a = get_D_none n k a

pub slots_length : (v : Version) → length (slots v) ≡ v.size
unfolding slots
slots_length v = length-map-range_with_len (slot_of v) 0 v.size

pub slots_at : (v : Version) (k : ℕ) → k < v.size → slot_at (slots v) k ≡ slot_of v k
unfolding slots
slots_at v k h = get_or-map-range_with_len (slot_of v) 0 v.size k k unseen h (zero-add k)

-- slots that are those of a version
pub slots_are : (v : Version) (xs : List Slot) → length xs ≡ v.size → ((k : ℕ) → k < v.size → slot_of v k ≡ slot_at xs k) → slots v ≡ xs
slots_are v xs l e =
    let n = slots_length v in
    ext_get_or unseen (slots v) xs (n ∙ sym l) (λ k h. slots_at v k (omega arith) ∙ e k (omega arith))

pub slots_map : (v : Version) → slots v ≡ map slot_from (take v.size v.seen)
slots_map v =
    let few = v.sized.1 in
    let n : length (take v.size v.seen) ≡ v.size = length-take-le v.size v.seen (omega arith) in
    slots_are v (map slot_from (take v.size v.seen)) (length-map (take v.size v.seen) slot_from ∙ n)
    (λ k h. sym (get_or-map slot_from (take v.size v.seen) k None unseen (omega arith) ∙ ap slot_from (get_or-take v.size v.seen k None h)))

-- so many places of an array with nothing in it
pub room : (n : ℕ) → n ≤ 8 → length (take n (replicate {A = Option Seen} 8 None)) ≡ n
room n h = length-take-le n (replicate {A = Option Seen} 8 None) (omega (arith, length-replicate {A = Option Seen} 8 None))

-- slots that were put into the front of the array
pub slots_front : (v : Version) (xs ys : List (Option Seen)) → v.seen ≡ xs ++ ys → length xs ≡ v.size → slots v ≡ map slot_from xs
slots_front v xs ys e l = slots_map v ∙ ap (map slot_from) (rw e (take_at xs ys v.size l))

pub slots_zero : (v : Version) → v.seen ≡ replicate 8 None → slots v ≡ replicate v.size unseen
slots_zero v e =
    slots_are v (replicate v.size unseen) (length-replicate v.size unseen)
    (λ k h. ap (λ xs. slot_from (get_or xs k None)) e ∙ rw (get_D_none {A = Option Seen} 8 k None) (sym (get_or-replicate v.size k unseen unseen h)))

-- one slot changed
pub slots_set : (v v' : Version) (k : ℕ) (x : Option Seen) → v'.size ≡ v.size → k < v.size → k < length v.seen → v'.seen ≡ set v.seen k x → slots v' ≡ set (slots v) k (slot_from x)
slots_set v v' k x s h l e =
    let n = slots_length v in
    slots_are v' (set (slots v) k (slot_from x)) (length-set (slots v) k (slot_from x) ∙ n ∙ sym s)
    (λ j hj.
    ap (λ xs. slot_from (get_or xs j None)) e
    ∙ ⊎_elim
    (λ (e : j ≡ k). rw (e, get_or-set_same v.seen k x None l) (sym (get_or-set_same (slots v) k (slot_from x) unseen (omega arith))))
    (λ (ne : j ≡ k → ⊥). rw (get_or-set_other v.seen k j x None ne) (sym (get_or-set_other (slots v) k j (slot_from x) unseen ne ∙ slots_at v j (omega arith))))
    (cases_eq j k))

-- the slot of a site, where the code has it
pub slot_here : (v : Version) (i k : ℕ) → Site v i → k ≡ i - 1 → slot_of v k ≡ slot v i
slot_here v i k h e = let n = slots_length v in sym (slots_at v k (omega arith)) ∙ ap (slot_at (slots v)) e

pub zero_length : (v : Version) (n : ℕ) → slots v ≡ replicate n unseen → length (slots v) ≡ n
zero_length v n e = ap length e ∙ length-replicate n unseen

-- past the group's size nothing has been seen
pub slots_past : (v : Version) (k : ℕ) → v.size ≤ k → slot_of v k ≡ unseen
slots_past v k h = ap slot_from (v.bounded k h)

pub one_form : OneForm
one_form u v e k =
    let m = slots_length u in
    let n = slots_length v in
    let l = ap length e in
    ⊎_elim
    (λ (h : k < u.size). sym (slots_at u k h) ∙ ap (λ s. slot_at s k) e ∙ slots_at v k (omega arith))
    (λ (h : u.size ≤ k). slots_past u k h ∙ sym (slots_past v k (omega arith)))
    (cases_lt k u.size)

-- what a call answers that reads the slot of a site, by what it makes of the slot
module _ (v : Version) (i k : ℕ) (d : Option Seen) (h : Site v i) (e : k ≡ i - 1) (l : k < 8) where
  read : slot_from (get_or v.seen k d) ≡ slot v i
  read = let n = v.eight in ap slot_from (get_or_default v.seen k d None (omega arith)) ∙ slot_here v i k h e

  pub stamp_read : (t : ℕ) → MatchOption (get_or v.seen k d) (t ≡ 0) (λ seen. t ≡ seen.timestamp) → t ≡ (slot v i).timestamp
  stamp_read t m = go (get_or v.seen k d) m ∙ ap (λ s. s.timestamp) read
    where
      go : (x : Option Seen) → MatchOption x (t ≡ 0) (λ seen. t ≡ seen.timestamp) → t ≡ (slot_from x).timestamp
      go None m = m
      go (Some seen) m = m

  pub digest_read : (r : Option (List ℕ)) → MatchOption (get_or v.seen k d) (r ≡ None) (λ seen. IsSomeAnd r (λ found. found ≡ seen.digest)) → r ≡ (slot v i).digest
  digest_read r m = go (get_or v.seen k d) r m ∙ ap (λ s. s.digest) read
    where
      go : (x : Option Seen) (r : Option (List ℕ)) → MatchOption x (r ≡ None) (λ seen. IsSomeAnd r (λ found. found ≡ seen.digest)) → r ≡ (slot_from x).digest
      go None r m = m
      go (Some seen) None m = absurd m
      go (Some seen) (Some found) m = ap (λ x. Some x) m

-- a count that is at its limit, or else one more
pub at_limit : (r : Option ℕ) (t : ℕ) (e : Refusal) → r ≡ None → ◌≡◌ {A = Result ℕ Refusal} (Err e) (ok_or r TimestampLimit) → SomeIff r (t + 1 < 4294967296) (t + 1) → (e ≡ TimestampLimit) × (4294967295 ≤ t)
at_limit None t e n w h = (cc, omega arith)
at_limit (Some u) t e n w h = absurd (cc)

pub counted : (r : Option ℕ) (t u : ℕ) → r ≡ Some u → SomeIff r (t + 1 < 4294967296) (t + 1) → (t + 1 < 4294967296) × (u ≡ t + 1)
counted None t u e h = absurd (cc)
counted (Some x) t u e h = (h.0, cc)
