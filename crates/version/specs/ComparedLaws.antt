-- The comparison of versions is a partial order, which answers `Equal` exactly where `==` holds. The law of `PartialOrd` cites this.
use Rattle.std.proofs.Common.{◌≡◌, ℕ, zero, suc, ◌<◌, cond, unwrap_or, Bool, true, false, ◌&&◌, List, [], ◌∷◌, length, get_or, Some, None, Option, Decides, sym, refl, ap, ◌∙◌, arith}
use Rattle.std.proofs.lemmas.Bool.Decides.{Decides-like, Decides-and, Decides-eqb, same_from_decides}
use Rattle.std.proofs.lemmas.Slice.Eq.{bytes_eq-Decides}
use Rattle.std.specs.Cmp.{IsPartialOrder}
use Rattle.std.specs.Bool.{◌==◌}
use Rattle.std.specs.List.{list_all, zip}
use Rattle.std.specs.Option.{option_eq, option_map, option_partial_cmp}
use Rattle.std.proofs.lemmas.Cmp.{ranked}
use Rattle.std.specs.Ordering.{MatchOrdering, ordering_reverse, nat_cmp, partial_le, partial_ordering_then, is_some_and, is_le}
use Rattle.std.specs.declared.cmp.Ordering.{Ordering}
use Rattle.std.specs.Str.{bytes_eq}
use Rattle.std.specs.declared.cmp.Ordering.TheVariants.{Less, Equal, Greater}
use lib.Pointwise.{pointwise}
use Rattle.version.specs.declared.seen.Seen.{Seen}
use Rattle.version.specs.declared.version.Version.{Version}
use Rattle.version.specs.contracts.seen.SeenPartialEq.TheImpl as seen_eq
use Rattle.version.specs.contracts.version.VersionPartialEq.TheImpl as version_eq
use Rattle.version.specs.Compared.{seen_cmp, under, both_ways, compared}
use Rattle.version.specs.Order.{SlotAtOrBelow}
use Rattle.version.specs.Version.{slot_from}

-- A comparison by a test t of a relation R that each value has to itself and that goes on from value to value.
module _ {K : Type 0} {R : K → K → Type 0} (around : (x : K) → R x x) (onward : (x y z : K) → R x y → R y z → R x z)
    (t : K → K → Bool) (d : (x y : K) → Decides (t x y) (R x y)) where
  less : (b c : Bool) → both_ways b c ≡ Some Less → (b ≡ true) × (c ≡ false)
  less true false e = (refl, refl)
  less true true e = cc
  less false true e = cc
  less false false e = cc

  equal : (b c : Bool) → both_ways b c ≡ Some Equal → (b ≡ true) × (c ≡ true)
  equal true true e = (refl, refl)
  equal true false e = cc
  equal false true e = cc
  equal false false e = cc

  turned : (b c : Bool) → both_ways b c ≡ option_map ordering_reverse (both_ways c b)
  turned true true = refl
  turned true false = refl
  turned false true = refl
  turned false false = refl

  not_under : (x y z : K) → t y x ≡ false → R y z → t z x ≡ false
  not_under x y z e h = go (t z x) (d z x)
    where
      go : (b : Bool) → Decides b (R z x) → b ≡ false
      go true p = let q = (d y x).1 (onward y z x h (p.0 refl)) in cc
      go false p = refl

  pub ordered : {E : K → K → Bool} → ((x y : K) → Decides (E x y) (R x y × R y x)) → IsPartialOrder E (λ x y. both_ways (t x y) (t y x))
  ordered {E} e = record {
    antisymm = λ x y. turned (t x y) (t y x);
    trans = λ x y z p q.
        let a = less (t x y) (t y x) p in
        let b = less (t y z) (t z y) q in
        let up = (d x z).1 (onward x y z ((d x y).0 a.0) ((d y z).0 b.0)) in
        let down = not_under x y z a.1 ((d y z).0 b.0) in
        rw (up, down);
    matches_eq = λ x y. (
      λ h. let s = (e x y).0 h in let up = (d x y).1 s.0 in let down = (d y x).1 s.1 in rw (up, down),
      λ h. let a = equal (t x y) (t y x) h in (e x y).1 ((d x y).0 a.0, (d y x).0 a.1),
    );
    congr = λ x y z h.
        let s = (e x y).0 h in
        let up : t x z ≡ t y z = same_from_decides (t x z) (t y z) (d x z) (Decides-like (t y z) (onward x y z s.0) (onward y x z s.1) (d y z)) in
        let down : t z x ≡ t z y = same_from_decides (t z x) (t z y) (d z x) (Decides-like (t z y) (λ r. onward z y x r s.1) (λ r. onward z x y r s.0) (d z y)) in
        rw (up, down);
  }

-- a test of two lists place by place, of a relation that holds of the default
pub pair_by_pair : {X : Type 0} (T : X → X → Bool) (P : X → X → Type 0) (z : X) → ((x y : X) → Decides (T x y) (P x y)) → P z z
    → (xs ys : List X) → length xs ≡ length ys → Decides (pointwise T xs ys) ((k : ℕ) → P (get_or xs k z) (get_or ys k z))
pair_by_pair T P z d here [] [] l = (λ _ k. here, λ _. refl)
pair_by_pair T P z d here [] (y ∷ ys) l = absurd (omega arith)
pair_by_pair T P z d here (x ∷ xs) [] l = absurd (omega arith)
pair_by_pair {X} T P z d here (x ∷ xs) (y ∷ ys) l =
    Decides-like (T x y && pointwise T xs ys) each (λ h. (h 0, λ k. h (suc k))) (Decides-and (T x y) (pointwise T xs ys) (d x y) (pair_by_pair T P z d here xs ys (omega arith)))
  where
    each : P x y × ((k : ℕ) → P (get_or xs k z) (get_or ys k z)) → (k : ℕ) → P (get_or (x ∷ xs) k z) (get_or (y ∷ ys) k z)
    each h zero = h.0
    each h (suc k) = h.1 k

-- of two slots
abbrev pub Under : Option Seen → Option Seen → Type 0
Under a b = SlotAtOrBelow (slot_from a) (slot_from b)

pub under_itself : (a : Option Seen) → Under a a
under_itself a = record { stamp = omega arith; told = λ e. refl }

under_onward : (a b c : Option Seen) → Under a b → Under b c → Under a c
under_onward a b c p q = record {
  stamp = omega (arith, p.stamp, q.stamp);
  told = λ e. p.told (omega (arith, p.stamp, q.stamp)) ∙ q.told (omega (arith, p.stamp, q.stamp));
}

slot_tested : (a b : Option Seen) → Decides (partial_le (option_partial_cmp seen_cmp) a b) (Under a b)
slot_tested None None = (λ _. under_itself None, λ _. refl)
slot_tested None (Some b) = (λ _. record { stamp = omega arith; told = λ e. let c = b.counted in absurd (omega arith) }, λ _. refl)
slot_tested (Some a) None = (λ e. cc, λ h. let c = a.counted in let s = h.stamp in absurd (omega arith))
slot_tested (Some a) (Some b) = go (nat_cmp a.timestamp b.timestamp) (ranked a.timestamp b.timestamp _ refl) (bytes_eq a.digest b.digest) (bytes_eq-Decides a.digest b.digest)
  where
    go : (o : Ordering) → MatchOrdering o (a.timestamp < b.timestamp) (a.timestamp ≡ b.timestamp) (b.timestamp < a.timestamp) → (s : Bool) → Decides s (a.digest ≡ b.digest)
        → Decides (is_some_and is_le (partial_ordering_then (Some o) (cond s (Some Equal) None))) (Under (Some a) (Some b))
    go Less r s d = (λ _. record { stamp = omega arith; told = λ e. absurd (omega arith) }, λ _. refl)
    go Equal r true d = (λ _. record { stamp = omega arith; told = λ e. ap (λ x. Some x) (d.0 refl) }, λ _. refl)
    go Equal r false d = (λ e. cc, λ h. d.1 (ap (λ x. unwrap_or x []) (h.told r)))
    go Greater r s d = (λ e. cc, λ h. let s = h.stamp in absurd (omega arith))

slot_same : (a b : Option Seen) → Decides (option_eq (seen_eq.eq-value).it a b) (Under a b × Under b a)
slot_same None None = (λ _. (under_itself None, under_itself None), λ _. refl)
slot_same None (Some b) = (λ e. cc, λ h. let c = b.counted in let s = h.1.stamp in absurd (omega arith))
slot_same (Some a) None = (λ e. cc, λ h. let c = a.counted in let s = h.0.stamp in absurd (omega arith))
slot_same (Some a) (Some b) =
    Decides-like (a.timestamp == b.timestamp && bytes_eq a.digest b.digest)
    (λ h. (record { stamp = omega (arith, h.0); told = λ e. ap (λ x. Some x) h.1 }, record { stamp = omega (arith, h.0); told = λ e. ap (λ x. Some x) (sym h.1) }))
    (λ h.
    let s = h.0.stamp in
    let t = h.1.stamp in
    let e : a.timestamp ≡ b.timestamp = omega arith in
    (e, ap (λ x. unwrap_or x []) (h.0.told e)))
    (Decides-and (a.timestamp == b.timestamp) (bytes_eq a.digest b.digest) (Decides-eqb a.timestamp b.timestamp) (bytes_eq-Decides a.digest b.digest))

-- of two versions: at all eight places, also past the groups' size
abbrev pub AllUnder : Version → Version → Type 0
AllUnder u v = (u.size ≡ v.size) × ((k : ℕ) → Under (get_or u.seen k None) (get_or v.seen k None))

in_pairs : {X : Type 0} (T : X → X → Bool) (xs ys : List X) → length xs ≡ length ys → list_all (λ p. T p.0 p.1) (zip xs ys) ≡ pointwise T xs ys
in_pairs T [] [] l = refl
in_pairs T [] (y ∷ ys) l = absurd (omega arith)
in_pairs T (x ∷ xs) [] l = absurd (omega arith)
in_pairs T (x ∷ xs) (y ∷ ys) l = ap (λ b. T x y && b) (in_pairs T xs ys (omega arith))

pub tested : (u v : Version) → Decides (under u v) (AllUnder u v)
tested u v =
    Decides-and (u.size == v.size) _ (Decides-eqb u.size v.size)
    (rw (in_pairs (partial_le (option_partial_cmp seen_cmp)) u.seen v.seen (u.eight ∙ sym v.eight)) (pair_by_pair (partial_le (option_partial_cmp seen_cmp)) Under None slot_tested (under_itself None) u.seen v.seen (u.eight ∙ sym v.eight)))

pub same_version : (u v : Version) → Decides ((version_eq.eq-value).it u v) (AllUnder u v × AllUnder v u)
same_version u v =
    Decides-like ((version_eq.eq-value).it u v)
    (λ h. ((h.0, λ k. (h.1 k).0), (sym h.0, λ k. (h.1 k).1)))
    (λ h. (h.0.0, λ k. (h.0.1 k, h.1.1 k)))
    (Decides-and (u.size == v.size) _ (Decides-eqb u.size v.size)
    (pair_by_pair (option_eq (seen_eq.eq-value).it) (λ a b. Under a b × Under b a) None slot_same (under_itself None, under_itself None) u.seen v.seen (u.eight ∙ sym v.eight)))

pub version_order : IsPartialOrder (version_eq.eq-value).it compared
unfolding compared
version_order =
    ordered (λ u. (refl, λ k. under_itself (get_or u.seen k None)))
    (λ u v w p q. (p.0 ∙ q.0, λ k. under_onward (get_or u.seen k None) (get_or v.seen k None) (get_or w.seen k None) (p.1 k) (q.1 k)))
    under tested same_version
