-- What the slots of a store say: at the start, and after one of them was replaced. And which versions have the form of the group's.
use Rattle.std.proofs.Common.{◌≡◌, ℕ, zero, suc, ◌^◌, ◌<◌, ◌≤◌, true, false, eqb, List, [], ◌∷◌, length, replicate, Some, None, Option, Result, sym, refl, ap, ◌∙◌, subst, subst₂, arith}
use Rattle.std.specs.Result.{result_unwrap_or}
use Rattle.std.proofs.lemmas.Bool.{ne_eqb, cond-false}
use Rattle.octets.specs.Field.{read}
use Rattle.octets.proofs.Laws.{undoes, good_each}
use Rattle.message.specs.Slots.{StoredValue, value_slot, StoredVersion, version_slot}
use Rattle.message.proofs.Laws.{value_slot_law, version_slot_law}
use Rattle.store.specs.Calls.{Replaced}
use Rattle.store.specs.declared.slot.Slot.TheVariants.{Value, Version}
use Rattle.store.specs.Meaning.{StoreMeaning, Empty}
use Rattle.version.specs.Layout.{slot_field, digest_field, all_zero}
use Rattle.version.specs.Order.{Slot, unseen, slot_at}
use Rattle.rules.specs.Group.{Setup, zeros}
use Rattle.rules.specs.Running.{link}
use Rattle.rules.specs.Taking.{value_at, version_at}
use Rattle.rules.proofs.Lists.{times, cut, times_cut}
use Rattle.rules.proofs.Fitting.{D, Fits}
use Rattle.rules.proofs.Reading.{GoodVersion}

-- a slot that does not read counts as these
abbrev pub no_value : Setup → StoredValue
no_value p = record { timestamp = 0; value = None; data_signature = replicate p.signature 0 }

abbrev pub no_version : Setup → StoredVersion
no_version p = record { version = zeros p.size; commit_signature = replicate p.signature 0; proof_signature = replicate p.signature 0 }

apart : Value ≡ Version → ⊥
apart e = let z : ◌≡◌ {A = ℕ} 0 1 = cc in omega arith

module _ (p : Setup) (m m' : StoreMeaning) (i : ℕ) (bs : List ℕ) where
  value_from : (j : ℕ) → m'.slot Value j ≡ m.slot Value j → value_at p m' j ≡ value_at p m j
  value_from j e = ap (λ (b : List ℕ). result_unwrap_or (read (value_slot p.signature) b) (no_value p)) e

  version_from : (j : ℕ) → m'.slot Version j ≡ m.slot Version j → version_at p m' j ≡ version_at p m j
  version_from j e = ap (λ (b : List ℕ). result_unwrap_or (read (version_slot p.size p.signature) b) (no_version p)) e

  -- another site's value, or a site's version, after a value was replaced
  pub value_else : Replaced m Value i bs m' → (j : ℕ) → (j ≡ i → ⊥) → value_at p m' j ≡ value_at p m j
  value_else x j n = value_from j (x.others Value j (λ _. n))

  pub version_kept : Replaced m Value i bs m' → (j : ℕ) → version_at p m' j ≡ version_at p m j
  version_kept x j = version_from j (x.others Version j (λ e _. apart (sym e)))

  -- and after a version was replaced
  pub version_else : Replaced m Version i bs m' → (j : ℕ) → (j ≡ i → ⊥) → version_at p m' j ≡ version_at p m j
  version_else x j n = version_from j (x.others Version j (λ _. n))

  pub value_kept : Replaced m Version i bs m' → (j : ℕ) → value_at p m' j ≡ value_at p m j
  value_kept x j = value_from j (x.others Value j (λ e _. apart e))

-- what was entered stands there
module _ (p : Setup) (m m' : StoreMeaning) (i : ℕ) where
  pub value_here :
      (v : StoredValue) → (value_slot p.signature).Good v → Replaced m Value i ((value_slot p.signature).put v) m' → value_at p m' i ≡ v
  value_here v h x =
      ap (λ (b : List ℕ). result_unwrap_or (read (value_slot p.signature) b) (no_value p)) x.here
      ∙ ap (λ (r : Result StoredValue ℕ). result_unwrap_or r (no_value p)) ((undoes (value_slot_law p.signature)).reading v h)

  pub version_here :
      (v : StoredVersion) → (version_slot p.size p.signature).Good v → Replaced m Version i ((version_slot p.size p.signature).put v) m'
      → version_at p m' i ≡ v
  version_here v h x =
      ap (λ (b : List ℕ). result_unwrap_or (read (version_slot p.size p.signature) b) (no_version p)) x.here
      ∙ ap (λ (r : Result StoredVersion ℕ). result_unwrap_or r (no_version p)) ((undoes (version_slot_law p.size p.signature)).reading v h)

-- an empty slot does not read
pub value_first : (p : Setup) (m : StoreMeaning) → Empty m → (i : ℕ) → value_at p m i ≡ no_value p
value_first p m none i = ap (λ (b : List ℕ). result_unwrap_or (read (value_slot p.signature) b) (no_value p)) (none Value i)

version_unread : (n g : ℕ) (d : StoredVersion) → 1 ≤ n → result_unwrap_or (read (version_slot n g) []) d ≡ d
version_unread zero g d some = absurd (omega arith)
version_unread (suc n) g d some = refl

pub version_first : (p : Setup) (m : StoreMeaning) → 1 ≤ p.size → Empty m → (i : ℕ) → version_at p m i ≡ no_version p
version_first p m some none i =
    ap (λ (b : List ℕ). result_unwrap_or (read (version_slot p.size p.signature) b) (no_version p)) (none Version i)
    ∙ version_unread p.size p.signature (no_version p) some

-- a version that fits a history has the form, if its timestamps do
module _ (H : List ℕ → List ℕ) (wide : (bs : List ℕ) → length (H bs) ≡ 32) {A : Type 0} (of : A → ℕ) where
  cut_none : (k : ℕ) (h : List A) → times of k h ≡ 0 → cut of k h ≡ []
  unfolding times cut
  cut_none k [] e = refl
  cut_none k (x ∷ h) e = let ih = cut_none k h in grind arith

  some_cut : (k : ℕ) (h : List A) (x : A) (c : List A) → cut of k h ≡ x ∷ c → times of k h ≡ 0 → ⊥
  some_cut k h x c e z = let n = cut_none k h z in let w : ◌≡◌ {A = ℕ} 0 1 = cc in omega arith

  digest_good : (k : ℕ) (h c : List A) → cut of k h ≡ c → (digest_field (times of k h)).Good (D H of c)
  unfolding times
  digest_good k h [] e =
      let z : 0 ≡ times of k h = sym (ap (times of k) e) ∙ times_cut of k h in subst (λ (t : ℕ). (digest_field t).Good None) z ((refl, refl), refl)
  digest_good k h (x ∷ c) e =
      let n : eqb (times of k h) 0 ≡ false = ne_eqb (times of k h) 0 (some_cut k h x c e) in
      let d : List ℕ = H (link (D H of c) (of x)) in
      ((wide (link (D H of c) (of x)), cond-false (eqb (times of k h) 0) (all_zero d) true n), cond-false (eqb (times of k h) 0) None (Some d) n)

  pub version_good : (n : ℕ) (v : List Slot) (h : List A) → length v ≡ n → Fits H of v h → ((k : ℕ) → times of k h < 256 ^ 4) → GoodVersion n v
  version_good n v h l f small = (l, good_each slot_field unseen v at)
    where
      Form : ℕ → Option (List ℕ) → Type 0
      Form t d = (t < 256 ^ 4) × (digest_field t).Good d

      at : (k : ℕ) → k < length v → slot_field.Good (slot_at v k)
      at k less =
          let here = f (suc k) in
          (subst₂ Form (sym here.0) (sym here.1) (small (suc k), digest_good (suc k) h (cut of (suc k) h) refl), refl)
