-- The slots of a site in the list of all sites.
use Rattle.std.proofs.Common.{◌≡◌, ℕ, zero, suc, ◌<◌, List, [], ◌∷◌, map, length, get_or, set, ⊎_elim, subst, sym, refl, ap, ◌∙◌, ◌≢◌}
use Rattle.std.specs.List.{FoldsTo}
use Rattle.std.proofs.lemmas.Bool.{cases_eq}
use Rattle.std.proofs.lemmas.List.{get_or-map, get_or-set_same, get_or-set_other, length-map, map-set}
use Rattle.store.specs.declared.slot.Slot.{Slot}
use Rattle.store.specs.declared.table.pair.Pair.{Pair}
use Rattle.store.specs.Pair.{bytes_in, Blank, Put}
use Rattle.store.specs.Table.{slot_in}

-- where each site was made blank, every slot is empty
pub all_empty : {F : Type 0} (step : F → Pair → F → Type 0) (f last : F) (ps : List Pair) → ((g h : F) (p : Pair) → step g p h → Blank p) → FoldsTo step f ps last → (s : Slot) (i : ℕ) → slot_in ps s i ≡ []
all_empty step f last ps blank made s zero = refl
all_empty step f last [] blank made s (suc k) = refl
all_empty step f last (p ∷ ps) blank made s (suc zero) = blank f made.0 p made.1 s
all_empty step f last (p ∷ ps) blank made s (suc (suc k)) = all_empty step made.0 last ps blank made.2 s (suc k)

module _ (ps : List Pair) (i k : ℕ) (p : Pair) (is : i ≡ suc k) (within : k < length ps) (here : p ≡ get_or ps k p) where
  -- what the slots of the site hold
  pub slot_of : (s : Slot) → slot_in ps s i ≡ bytes_in s p
  slot_of s = rw is (get_or-map (bytes_in s) ps k p [] within ∙ ap (bytes_in s) (sym here))

  -- other bytes are put into one of them
  module _ (s : Slot) (bs : List ℕ) (p' : Pair) (put : Put p s bs p') where
    after : (t : Slot) → slot_in (set ps k p') t i ≡ bytes_in t p'
    after t = rw (is, map-set (bytes_in t) ps k p', get_or-set_same (map (bytes_in t) ps) k (bytes_in t p') [] (rw length-map within)) refl

    elsewhere : (t : Slot) (j : ℕ) → j ≢ i → slot_in (set ps k p') t j ≡ slot_in ps t j
    elsewhere t zero ne = refl
    elsewhere t (suc m) ne = rw (map-set (bytes_in t) ps k p', get_or-set_other (map (bytes_in t) ps) k m (bytes_in t p') [] (λ e. ne (ap suc e ∙ sym is))) refl

    pub holds : slot_in (set ps k p') s i ≡ bs
    holds = after s ∙ put.here

    pub others : (t : Slot) (j : ℕ) → (t ≡ s → j ≢ i) → slot_in (set ps k p') t j ≡ slot_in ps t j
    others t j ne =
        ⊎_elim
        (λ (e : j ≡ i). subst (λ n. slot_in (set ps k p') t n ≡ slot_in ps t n) (sym e) (after t ∙ put.other t (λ same. ne same e) ∙ sym (slot_of t)))
        (λ (no : j ≡ i → ⊥). elsewhere t j no)
        (cases_eq j i)
