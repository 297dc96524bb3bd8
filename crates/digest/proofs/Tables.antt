-- tables of values that a rule gives
use Rattle.std.proofs.Common.{◌≡◌, ℕ, ◌<◌, List, length, map, get_or, sym, ap, ◌∙◌, zero-add, arith}
use Rattle.std.specs.List.{range_with_len}
use Rattle.std.proofs.lemmas.List.{same_lists, get_or-map, length-map}
use Rattle.std.proofs.lemmas.List.FromFn.{get_or-map-range_with_len}

-- a table that lists f at 0 .. n - 1 has f i at i
pub tabled : {A : Type 0} (f : ℕ → A) (n : ℕ) (table : List A) (i : ℕ) (d : A) → table ≡ map f (range_with_len 0 n) → i < n → get_or table i d ≡ f i
tabled f n table i d e h = ap (λ z. get_or z i d) e ∙ get_or-map-range_with_len f 0 n i i d h (zero-add i)

-- what a map over an array gives, from what it gives at each index
pub mapped : {A B : Type 0} (f : A → B) (d : A) (xs : List A) (ys : List B) → length ys ≡ length xs
    → ((k : ℕ) (e : B) → k < length xs → get_or ys k e ≡ f (get_or xs k d)) → ys ≡ map f xs
mapped f d xs ys l at =
    same_lists ys (map f xs) (l ∙ sym (length-map xs f)) (λ k e h. let i : k < length xs = omega arith in at k e i ∙ sym (get_or-map f xs k d e i))
