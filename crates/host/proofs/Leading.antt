-- The steps of a loop that looks whether one version leads over another.
use Rattle.std.proofs.Common.{◌≡◌, ℕ, zero, suc, ◌+◌, ◌<◌, ◌≤◌, Bool, true, false, ◌&&◌, ◌||◌, ltb, leb, List, length, drop, refl, ◌∙◌, arith}
use Rattle.std.proofs.lemmas.List.{drop_more}
use Rattle.std.proofs.lemmas.Bool.{le-leb, lt-ltb, le-ltb}
use Rattle.version.specs.Order.{Slot, unseen, slot_at}
use Rattle.rules.specs.Group.{slot}
use Rattle.rules.specs.Taking.{nowhere_below, somewhere_above}

-- what is left to be looked at from k on tells the rest
pub record Told (v w : List Slot) (k : ℕ) (above : Bool) : Type 0 where
  pub below : nowhere_below v w ≡ nowhere_below (drop k v) (drop k w)
  pub above_so_far : somewhere_above v w ≡ (above || somewhere_above (drop k v) (drop k w))

or_true : (a : Bool) → (a || true) ≡ true
or_true true = refl
or_true false = refl

slot_is : (v : List Slot) (site k : ℕ) → site ≡ k + 1 → slot v site ≡ slot_at v k
slot_is v zero k e = absurd (omega arith)
slot_is v (suc j) k e = let z : j ≡ k = omega arith in rw z

module _ (v w : List Slot) (k : ℕ) (above : Bool) (t : Told v w k above) where
  module _ (site new old : ℕ) (at_k : site ≡ k + 1) (lv : site ≤ length v) (lw : site ≤ length w) (is : new ≡ (slot v site).timestamp) (was : old ≡ (slot w site).timestamp) where
    below_step : nowhere_below v w ≡ (leb old new && nowhere_below (drop (k + 1) v) (drop (k + 1) w))
    below_step =
        t.below ∙ rw (drop_more v k unseen (omega arith), drop_more w k unseen (omega arith), is, was, slot_is v site k at_k, slot_is w site k at_k)

    above_step : somewhere_above v w ≡ (above || (ltb old new || somewhere_above (drop (k + 1) v) (drop (k + 1) w)))
    above_step =
        t.above_so_far ∙ rw (drop_more v k unseen (omega arith), drop_more w k unseen (omega arith), is, was, slot_is v site k at_k, slot_is w site k at_k)

    pub told_above : old < new → Told v w (k + 1) true
    told_above less = record {
      below = below_step ∙ rw (le-leb old new (omega arith));
      above_so_far = above_step ∙ rw (lt-ltb old new less) (or_true above);
    }

    pub told_same : old ≤ new → new ≤ old → Told v w (k + 1) above
    told_same le ge = record { below = below_step ∙ rw (le-leb old new le); above_so_far = above_step ∙ rw (le-ltb old new ge) }
