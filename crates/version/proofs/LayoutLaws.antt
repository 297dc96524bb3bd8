-- A version's bytes: the laws of its fields, and the steps of the loops over them.
use Rattle.std.proofs.Common.{◌≡◌, ℕ, zero, suc, ◌*◌, ◌≤◌, Bool, true, false, cond, ◌&&◌, not, eqb, List, [], ◌∷◌, ◌++◌, length, map, get_or, take, replicate, Some, None, Option, sym, refl, ap, ◌∙◌, arith}
use Rattle.std.proofs.lemmas.List.{length-append, length-take-le, take_all}
use Rattle.std.proofs.lemmas.Slice.Eq.{bytes_eq-Decides}
use lib.Pointwise.{pointwise}
use Rattle.octets.specs.Field.{good, bad, get_all, numeral}
use Rattle.octets.specs.Numbers.{big_endian}
use Rattle.octets.proofs.Cuts.{cut_good}
use Rattle.octets.proofs.Laws.{Lawful, numeral_law, span_law, only_law, then_law, shaped_law, times_law, good_each}
use Rattle.octets.proofs.Numbers.{length-big_endian}
use Rattle.octets.proofs.Places.{length_all}
use Rattle.version.specs.declared.seen.Seen.{Seen}
use Rattle.version.specs.declared.version.Version.{Version}
use Rattle.version.specs.Calls.{bytes_of}
use Rattle.version.specs.Layout.{all_zero, digest_field, slot_field, version_field}
use Rattle.version.specs.Order.{Slot, slot_with, unseen}
use Rattle.version.specs.Shape.{digest_bytes}
use Rattle.version.specs.Version.{slot_from, slots}
use Rattle.version.proofs.SlotLaws.{slots_length, slots_at, slots_front}

-- what `==` with zeros tells
pub zeros_tested : (bs : List ℕ) (n : ℕ) → length bs ≡ n → pointwise eqb bs (replicate n 0) ≡ all_zero bs
zeros_tested [] zero l = refl
zeros_tested [] (suc n) l = absurd (omega arith)
zeros_tested (b ∷ bs) zero l = absurd (omega arith)
zeros_tested (b ∷ bs) (suc n) l = ap (λ t. eqb b 0 && t) (zeros_tested bs n (omega arith))

zeros : (bs : List ℕ) (n : ℕ) → length bs ≡ n → all_zero bs ≡ true → replicate n 0 ≡ bs
zeros bs n l h = sym ((bytes_eq-Decides bs (replicate n 0)).0 (zeros_tested bs n l ∙ h))

digest_law : (t : ℕ) → Lawful (digest_field t)
digest_law t = shaped_law _ _ (only_law _ (span_law 32)) (λ bs h. back (eqb t 0) bs h.0 h.1)
  where
    back : (b : Bool) (bs : List ℕ) → length bs ≡ 32 → cond b (all_zero bs) true ≡ true → digest_bytes (cond b None (Some bs)) ≡ bs
    back true bs l h = zeros bs 32 l h
    back false bs l h = refl

pub version_law : (n : ℕ) → Lawful (version_field n)
version_law n = times_law (shaped_law {B = Slot} (λ p. slot_with p.0 p.1) (λ s. (s.timestamp, s.digest)) (then_law (numeral_law 4) digest_law) (λ p h. refl)) n

-- at timestamp 0 a digest that is not zeros is bad
pub slot_bad : (bs mid found : List ℕ) (t : ℕ) → (numeral 4).get bs ≡ good t mid → t ≡ 0 → 32 ≤ length mid → found ≡ take 32 mid → true ≡ not (pointwise eqb found (replicate 32 0)) → slot_field.get bs ≡ bad (length mid)
slot_bad bs mid found t g z l f e =
    let n : length found ≡ 32 = ap length f ∙ length-take-le 32 mid l in
    let d : all_zero (take 32 mid) ≡ false = denied _ (e ∙ ap not (zeros_tested found 32 n ∙ ap all_zero f)) in
    rw (g, z, cut_good 32 (take 32 mid) mid l, d)
  where
    denied : (b : Bool) → true ≡ not b → b ≡ false
    denied true e = cc
    denied false e = refl

-- a version whose slots were read
pub slots_got : (u v : Version) (i : ℕ) (xs ys : List (Option Seen)) (bs rest : List ℕ) → v.size ≡ u.size → v.seen ≡ xs ++ ys → length xs ≡ u.size → u.size ≤ i
    → get_all slot_field u.size bs ≡ good (map slot_from (take i xs)) rest → get_all slot_field (length (slots u)) bs ≡ good (slots v) rest
slots_got u v i xs ys bs rest s e l h g =
    let f : map slot_from (take i xs) ≡ slots v = ap (map slot_from) (take_all i xs (omega arith)) ∙ sym (slots_front v xs ys e (l ∙ sym s)) in
    rw (slots_length u) (g ∙ ap (λ ss. good ss rest) f)

-- every slot can be written, in 36 bytes
pub slot_good : (x : Option Seen) → slot_field.Good (slot_from x)
slot_good None = ((omega arith, ((refl, refl), refl)), refl)
slot_good (Some seen) = let c = seen.counted in let z : eqb seen.timestamp 0 ≡ false = grind arith in rw z ((seen.small, ((seen.wide, refl), refl)), refl)

slot-length : (a : Slot) → slot_field.Good a → length (slot_field.put a) ≡ 36
slot-length a h = length-append (big_endian 4 a.timestamp) (digest_bytes a.digest) ∙ rw (length-big_endian 4 a.timestamp, h.0.1.0.0)

pub slot_from-length : (x : Option Seen) → length (slot_field.put (slot_from x)) ≡ 36
slot_from-length x = slot-length (slot_from x) (slot_good x)

pub version_good : (v : Version) → (version_field (length (slots v))).Good (slots v)
version_good v =
    let n = slots_length v in
    (refl, good_each slot_field unseen (slots v) (λ k h. rw (slots_at v k (omega arith)) (slot_good (get_or v.seen k None))))

pub version-length : (v : Version) → length (bytes_of v) ≡ 36 * length (slots v)
version-length v = length_all slot_field 36 slot-length (slots v) (version_good v).1
