-- From one pass over the slots of two versions to whether each version is at or below the other.
use Rattle.std.proofs.Common.{◌≡◌, ℕ, zero, suc, ◌≤◌, ◌==◌, Bool, true, false, ◌&&◌, List, [], ◌∷◌, get_or, take, Some, None, Option, sym, refl, ap, ◌∙◌, eq-eqb, arith}
use Rattle.std.specs.List.{fold, list_all, zip}
use Rattle.std.specs.Option.{option_map, option_partial_cmp}
use Rattle.std.specs.Ordering.{ordering_reverse, partial_le, is_some_and, is_le}
use Rattle.std.specs.declared.cmp.Ordering.{Ordering}
use Rattle.std.specs.declared.cmp.Ordering.TheVariants.{Less, Equal, Greater}
use Rattle.version.specs.declared.seen.Seen.{Seen}
use Rattle.version.specs.declared.version.Version.{Version}
use Rattle.version.specs.contracts.seen.SeenPartialOrd.TheImpl.Laws.{laws-law}
use Rattle.version.specs.Compared.{seen_cmp, under, both_ways, compared, and_here, both_below}

-- two slots, and the first at or below the second
abbrev cmp : Option Seen → Option Seen → Option Ordering
cmp = option_partial_cmp seen_cmp

abbrev le : Option Seen → Option Seen → Bool
le = partial_le cmp

-- an answer is what it is both ways
round : (o : Option Ordering) → o ≡ both_ways (is_some_and is_le o) (is_some_and is_le (option_map ordering_reverse o))
round None = refl
round (Some Less) = refl
round (Some Equal) = refl
round (Some Greater) = refl

here : (a b : Option Seen) → cmp a b ≡ both_ways (le a b) (le b a)
here None None = refl
here None (Some b) = refl
here (Some a) None = refl
here (Some a) (Some b) = rw (laws-law.antisymm b a) (round (seen_cmp a b))

here_too : (a b c d : Bool) → ◌≡◌ {A = Bool × Bool} (and_here (a, b) (both_ways c d)) (a && c, b && d)
here_too true true true true = refl
here_too true true true false = refl
here_too true true false true = refl
here_too true true false false = refl
here_too true false true true = refl
here_too true false true false = refl
here_too true false false true = refl
here_too true false false false = refl
here_too false true true true = refl
here_too false true true false = refl
here_too false true false true = refl
here_too false true false false = refl
here_too false false true true = refl
here_too false false true false = refl
here_too false false false true = refl
here_too false false false false = refl

and-true : (a : Bool) → a ≡ (a && true)
and-true true = refl
and-true false = refl

and_assoc : (a b c : Bool) → ((a && b) && c) ≡ (a && (b && c))
and_assoc true b c = refl
and_assoc false b c = refl

two : (a b c d : Bool) → a ≡ b → c ≡ d → ◌≡◌ {A = Bool × Bool} (a, c) (b, d)
two a b c d e f = rw (e, f) refl

-- from the places so far to all
passed : (a b : Bool) (ps : List (Option Seen × Option Seen))
    → ◌≡◌ {A = Bool × Bool} (fold (λ so_far p. and_here so_far (cmp p.0 p.1)) (a, b) ps) (a && list_all (λ p. le p.0 p.1) ps, b && list_all (λ p. le p.1 p.0) ps)
passed a b [] = two a (a && true) b (b && true) (and-true a) (and-true b)
passed a b (p ∷ ps) =
    ap (λ s. fold (λ so_far p. and_here so_far (cmp p.0 p.1)) s ps) (ap (and_here (a, b)) (here p.0 p.1) ∙ here_too a b (le p.0 p.1) (le p.1 p.0))
    ∙ passed (a && le p.0 p.1) (b && le p.1 p.0) ps
    ∙ two _ _ _ _ (and_assoc a (le p.0 p.1) _) (and_assoc b (le p.1 p.0) _)

turned : (xs ys : List (Option Seen)) → list_all (λ p. le p.1 p.0) (zip xs ys) ≡ list_all (λ p. le p.0 p.1) (zip ys xs)
turned [] [] = refl
turned [] (y ∷ ys) = refl
turned (x ∷ xs) [] = refl
turned (x ∷ xs) (y ∷ ys) = ap (λ b. le y x && b) (turned xs ys)

-- places past the groups' size tell nothing
front : (n : ℕ) (xs ys : List (Option Seen)) → ((k : ℕ) → n ≤ k → get_or xs k None ≡ None) → ((k : ℕ) → n ≤ k → get_or ys k None ≡ None)
    → list_all (λ p. le p.0 p.1) (zip (take n xs) (take n ys)) ≡ list_all (λ p. le p.0 p.1) (zip xs ys)
front zero [] ys h g = refl
front zero (x ∷ xs) [] h g = refl
front zero (x ∷ xs) (y ∷ ys) h g =
    rw (h 0 (omega arith), g 0 (omega arith)) (front zero xs ys (λ k l. h (suc k) (omega arith)) (λ k l. g (suc k) (omega arith)))
front (suc n) [] ys h g = refl
front (suc n) (x ∷ xs) [] h g = refl
front (suc n) (x ∷ xs) (y ∷ ys) h g = ap (λ b. le x y && b) (front n xs ys (λ k l. h (suc k) (omega arith)) (λ k l. g (suc k) (omega arith)))

one_pass : (u v : Version) → u.size ≡ v.size → ◌≡◌ {A = Bool × Bool} (both_below (take u.size u.seen) (take u.size v.seen)) (under u v, under v u)
one_pass u v e =
    let past : (k : ℕ) → u.size ≤ k → get_or v.seen k None ≡ None = λ k l. v.bounded k (omega arith) in
    let up = front u.size u.seen v.seen u.bounded past in
    let down = turned (take u.size u.seen) (take u.size v.seen) ∙ front u.size v.seen u.seen past u.bounded in
    passed true true (zip (take u.size u.seen) (take u.size v.seen)) ∙ rw (eq-eqb u.size v.size e, eq-eqb v.size u.size (sym e)) (two _ _ _ _ up down)

pub one_pass_compared : (u v : Version) (found : Bool × Bool) → u.size ≡ v.size → found ≡ both_below (take u.size u.seen) (take u.size v.seen) → both_ways found.0 found.1 ≡ compared u v
unfolding compared
one_pass_compared u v found e f = ap (λ (p : Bool × Bool). both_ways p.0 p.1) (f ∙ one_pass u v e)

pub sizes_differ : (u v : Version) → (u.size ≡ v.size → ⊥) → None ≡ compared u v
unfolding compared
sizes_differ u v ne =
    let a : (u.size == v.size) ≡ false = grind (arith, ne) in
    let b : (v.size == u.size) ≡ false = grind (arith, ne) in
    rw (a, b) refl
