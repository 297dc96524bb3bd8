-- How many entries a site has.
use Rattle.std.proofs.Common.{◌≡◌, ℕ, ◌+◌, ◌<◌, ◌≤◌, List, map, length, get_or, take, sym, ap, ◌∙◌, arith, eq-eqb}
use Rattle.std.proofs.lemmas.List.{get_or-map, length-map}
use Rattle.std.proofs.lemmas.List.Sums.{count_by_more_yes, count_by_more_no, sum_by-take-le}
use Rattle.ledger.specs.declared.entry.Entry.{Entry}
use Rattle.ledger.specs.Entries.{Signing, count}
use Rattle.ledger.specs.Held.{held}

pub count_take_le : (s : ℕ) (es : List Signing) (i : ℕ) → count s (take i es) ≤ count s es
count_take_le s es i = sum_by-take-le _ es i

-- a loop that looks at the entry at i
module _ (xs : List Entry) (i : ℕ) (e : Entry) (s : ℕ) (below : i < length xs) (is : e ≡ get_or xs i e) where
  here : held e ≡ get_or (map held xs) i (held e)
  here = sym (get_or-map held xs i e (held e) below ∙ ap held (sym is))

  long : i < length (map held xs)
  long = rw length-map below

  pub one_more : e.site ≡ s → count s (take (i + 1) (map held xs)) ≡ count s (take i (map held xs)) + 1
  one_more same = count_by_more_yes _ (map held xs) i (held e) long (rw (← here) (eq-eqb _ _ same))

  pub none_more : (e.site ≡ s → ⊥) → count s (take (i + 1) (map held xs)) ≡ count s (take i (map held xs))
  none_more other = count_by_more_no _ (map held xs) i (held e) long (rw (← here) (grind (arith, other)))
