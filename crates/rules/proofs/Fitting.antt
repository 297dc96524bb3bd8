-- The digest of a history, and when a version fits one. Histories are newest first here.
use Rattle.std.proofs.Common.{◌≡◌, ℕ, ◌+◌, ◌≤◌, ◌⊎◌, List, [], ◌∷◌, length, Some, None, Option, sym, refl, ap, ◌∙◌, subst, inl, inr, arith}
use Rattle.std.proofs.lemmas.Bool.{cases_eq}
use Rattle.version.specs.Order.{Slot, slot_with, unseen, AtOrBelow, SlotAtOrBelow}
use Rattle.rules.specs.Group.{slot, with_slot, zeros, Member}
use Rattle.rules.specs.Running.{Running, link, rise}
use Rattle.rules.proofs.Lists.{Ends, times, cut, cut_here, times_here, times_ends, cut_same, side}
use Rattle.rules.proofs.Slots.{slot-set-same, slot_set_other, slot_zeros, length-with_slot, at_or_below_from, same_slots, length-zeros}

module _ (H : List ℕ → List ℕ) {A : Type 0} (of : A → ℕ) where
  abbrev pub D : List A → Option (List ℕ)
  D [] = None
  D (x ∷ h) = Some (H (link (D h) (of x)))

  -- the version's timestamps and digests are those of the history
  abbrev pub Fits : List Slot → List A → Type 0
  Fits v h = (k : ℕ) → ((slot v k).timestamp ≡ times of k h) × ((slot v k).digest ≡ D (cut of k h))

  -- and the running digest too
  pub record Tracks (n : ℕ) (w : Running) (h : List A) : Type 0 where
    pub running : w.digest ≡ D h
    pub fits : Fits w.version h
    pub long : length w.version ≡ n

  pub fits_zeros : (n : ℕ) → Fits (zeros n) []
  unfolding times cut
  fits_zeros n k = (ap (λ (z : Slot). z.timestamp) (slot_zeros n k), ap (λ (z : Slot). z.digest) (slot_zeros n k))

  pub tracks_rise : (n : ℕ) (x : A) (h : List A) (w : Running) → Member n (of x) → Tracks n w h → Tracks n (rise H w (of x)) (x ∷ h)
  unfolding times cut
  tracks_rise n x h w is t = record {
    running = ap (λ (z : Option (List ℕ)). Some (H (link z (of x)))) t.running;
    fits = at;
    long = length-with_slot w.version (of x) new ∙ t.long;
  }
    where
      new : Slot
      new = slot_with ((slot w.version (of x)).timestamp + 1) (Some (H (link w.digest (of x))))

      Fitting : Slot → ℕ → Type 0
      Fitting s j = (s.timestamp ≡ times of j (x ∷ h)) × (s.digest ≡ D (cut of j (x ∷ h)))

      here : Fitting new (of x)
      here =
          let c : (slot w.version (of x)).timestamp ≡ times of (of x) h = (t.fits (of x)).0 in (
            omega (arith, c, times_here of x h),
            ap (λ (z : Option (List ℕ)). Some (H (link z (of x)))) t.running ∙ ap D (sym (cut_here of (of x) x h refl)),
          )

      at : (j : ℕ) → Fitting (slot (with_slot w.version (of x) new) j) j
      at j = go (cases_eq (of x) j)
        where
          go : (of x ≡ j) ⊎ (of x ≡ j → ⊥) → Fitting (slot (with_slot w.version (of x) new) j) j
          go (inl e) =
              subst (λ (z : ℕ). Fitting (slot (with_slot w.version (of x) new) z) z) e
              (subst (λ (s : Slot). Fitting s (of x)) (sym (slot-set-same w.version (of x) new is.0 (omega (arith, is.1, t.long)))) here)
          go (inr no-match) =
              let old = t.fits j in
              subst (λ (s : Slot). Fitting s j) (sym (slot_set_other w.version (of x) j new no-match)) (grind arith)

  -- what fits a beginning of a history is at or below what fits the history
  pub fits_le :
      (v w : List Slot) (h h' : List A) → length v ≡ length w → Fits v h → Fits w h' → Ends h h' → AtOrBelow v w
  fits_le v w h h' l f g p = at_or_below_from v w l at
    where
      at : (k : ℕ) → SlotAtOrBelow (slot v k) (slot w k)
      at k =
          let less : times of k h ≤ times of k h' = times_ends of k h h' p in
          record {
            stamp = omega (arith, less, (f k).0, (g k).0);
            told = λ e. (f k).1 ∙ ap D (sym (cut_same of k h h' p (sym (f k).0 ∙ e ∙ (g k).0))) ∙ sym (g k).1;
          }

  -- only the zero version fits the empty history
  pub fits_none : (n : ℕ) (v : List Slot) → length v ≡ n → Fits v [] → v ≡ zeros n
  unfolding times cut
  fits_none n v l f = same_slots v (zeros n) (l ∙ sym (length-zeros n)) at
    where
      at : (k : ℕ) → slot v k ≡ slot (zeros n) k
      at k = let none : slot v k ≡ unseen = λ i. slot_with ((f k).0 i) ((f k).1 i) in none ∙ sym (slot_zeros n k)

  -- versions that fit two beginnings of one history are comparable
  pub fits_side :
      (v w : List Slot) (h h' c : List A) → length v ≡ length w → Fits v h → Fits w h' → Ends h c → Ends h' c → AtOrBelow v w ⊎ AtOrBelow w v
  fits_side v w h h' c l f g p q = go (side h h' c p q)
    where
      go : Ends h h' ⊎ Ends h' h → AtOrBelow v w ⊎ AtOrBelow w v
      go (inl s) = inl (fits_le v w h h' l f g s)
      go (inr s) = inr (fits_le w v h' h (sym l) g f s)
