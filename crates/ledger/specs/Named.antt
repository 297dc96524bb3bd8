-- The entry that a signature names.
use Rattle.std.specs.Prelude.{◌≡◌, ℕ, zero, suc, ◌+◌, ◌-◌, ◌<◌, ◌≤◌, true, false, List, [], ◌∷◌, map, length, ◌==◌, nat_lt, slice_index_or, refl}
use Rattle.std.proofs.Common.{sym, ap, ◌∙◌, arith, eqb-true, eq-eqb, lt-ltb}
use Rattle.std.specs.Str.{bytes_eq}
use Rattle.std.proofs.lemmas.Slice.Eq.{bytes_eq-Decides}
use Rattle.std.proofs.lemmas.List.{length-map, get_or-map, get_or_past}
use Rattle.std.proofs.lemmas.Bool.{and_parts, both_ways}
use Rattle.octets.specs.Numbers.{number}
use Rattle.signature.specs.Meaning.{Fits}
use Rattle.ledger.specs.declared.entry.Entry.{Entry}
use Rattle.ledger.specs.Entries.{holds, names}
use Rattle.ledger.specs.Held.{held}
use Rattle.ledger.specs.Grown.{names_parts}

some : (xs : List Entry) (s : ℕ) (t : List ℕ) (k : ℕ) → slice_index_or (map (holds s t) (map held xs)) k false ≡ true → (e : Entry) × (holds s t (held e) ≡ true)
some [] s t k h = absurd (both_ways _ refl h)
some (x ∷ xs) s t zero h = (x, h)
some (x ∷ xs) s t (suc k) h = some xs s t k h

within : (e : Entry) (s : ℕ) (t g : List ℕ) → holds s t (held e) ≡ true → length g ≡ 8 → Fits 8 s t g
within e s t g h long =
    let p = and_parts (e.site == s) (bytes_eq e.text.items t) h in
    let site = eqb-true e.site s p.0 in
    let text = (bytes_eq-Decides e.text.items t).0 p.1 in
    let a = e.ranged.0 in
    let b = e.ranged.1 in
    let m = e.short in
    record { ranged = (omega arith, omega arith); short = rw (← text) (omega arith); sized = long }

-- only a triple within the limits is valid
pub fits : (xs : List Entry) (s : ℕ) (t g : List ℕ) → names (map held xs) s t g ≡ true → Fits 8 s t g
fits xs s t g h =
    let p = names_parts (map held xs) s t g h in
    let e = some xs s t (number g - 1) p.2 in
    within e.0 s t g e.1 (eqb-true (length g) 8 p.0)

-- a signature that names the entry at a place
module _ (xs : List Entry) (s : ℕ) (t g : List ℕ) (place : ℕ) (long : length g ≡ 8) (is : number g ≡ place + 1) where
  named : names (map held xs) s t g ≡ slice_index_or (map (holds s t) (map held xs)) place false
  named =
      let some : nat_lt 0 (place + 1) ≡ true = lt-ltb 0 (place + 1) (omega arith) in
      let at : place + 1 - 1 ≡ place = omega arith in
      rw (eq-eqb (length g) 8 long, is, some, at)

  pub named_entry : (e : Entry) → place < length xs → e ≡ slice_index_or xs place e → names (map held xs) s t g ≡ holds s t (held e)
  named_entry e below here =
      named ∙ get_or-map (holds s t) (map held xs) place (held e) false (rw length-map below)
      ∙ ap (holds s t) (get_or-map held xs place e (held e) below ∙ ap held (sym here))

  pub named_none : length xs ≤ place → names (map held xs) s t g ≡ false
  named_none past = named ∙ get_or_past (map (holds s t) (map held xs)) place false (simp length-map past)
