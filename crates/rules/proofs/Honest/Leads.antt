-- When a committed version leads another, site by site.
use Rattle.std.proofs.Common.{◌≡◌, ℕ, zero, suc, ◌<◌, ◌≤◌, true, false, ltb, leb, ◌⊎◌, List, [], ◌∷◌, length, refl, inl, inr, arith}
use Rattle.std.proofs.lemmas.Bool.{and_from, or_left, or_right, or_cases, le-leb, lt-ltb, ltb-true, both_ways}
use Rattle.version.specs.Order.{Slot}
use Rattle.rules.specs.Group.{slot}
use Rattle.rules.specs.Taking.{nowhere_below, somewhere_above}

pub nowhere_from : (v w : List Slot) → ((k : ℕ) → (slot w k).timestamp ≤ (slot v k).timestamp) → nowhere_below v w ≡ true
nowhere_from [] w h = refl
nowhere_from (a ∷ v) [] h = refl
nowhere_from (a ∷ v) (b ∷ w) h =
    and_from (leb b.timestamp a.timestamp) (nowhere_below v w) (le-leb b.timestamp a.timestamp (h 1)) (nowhere_from v w below)
  where
    below : (k : ℕ) → (slot w k).timestamp ≤ (slot v k).timestamp
    below zero = omega arith
    below (suc k) = h (suc (suc k))

pub somewhere_find : (v w : List Slot) → somewhere_above v w ≡ true → (k : ℕ) × ((slot w k).timestamp < (slot v k).timestamp)
somewhere_find [] w e = absurd (both_ways false refl e)
somewhere_find (a ∷ v) [] e = absurd (both_ways false refl e)
somewhere_find (a ∷ v) (b ∷ w) e = go (or_cases (ltb b.timestamp a.timestamp) (somewhere_above v w) e) (somewhere_find v w)
  where
    lift : (k : ℕ) × ((slot w k).timestamp < (slot v k).timestamp) → (k : ℕ) × ((slot (b ∷ w) k).timestamp < (slot (a ∷ v) k).timestamp)
    lift (zero, less) = absurd (omega arith)
    lift (suc k, less) = (suc (suc k), less)

    go :
        (ltb b.timestamp a.timestamp ≡ true) ⊎ (somewhere_above v w ≡ true)
        → (somewhere_above v w ≡ true → (k : ℕ) × ((slot w k).timestamp < (slot v k).timestamp))
        → (k : ℕ) × ((slot (b ∷ w) k).timestamp < (slot (a ∷ v) k).timestamp)
    go (inl h) rest = (1, ltb-true b.timestamp a.timestamp h)
    go (inr h) rest = lift (rest h)

pub somewhere_from :
    (v w : List Slot) (k : ℕ) → length v ≡ length w → (slot w k).timestamp < (slot v k).timestamp → somewhere_above v w ≡ true
somewhere_from v w zero l less = absurd (omega arith)
somewhere_from [] w (suc k) l less = absurd (omega arith)
somewhere_from (a ∷ v) [] (suc k) l less = absurd (omega arith)
somewhere_from (a ∷ v) (b ∷ w) (suc zero) l less =
    or_left (ltb b.timestamp a.timestamp) (somewhere_above v w) (lt-ltb b.timestamp a.timestamp less)
somewhere_from (a ∷ v) (b ∷ w) (suc (suc k)) l less =
    or_right (ltb b.timestamp a.timestamp) (somewhere_above v w) (somewhere_from v w (suc k) (omega arith) less)
