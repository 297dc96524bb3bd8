-- The comparison of versions as a function.
use Rattle.std.specs.Prelude.{ℕ, Bool, true, false, cond, ◌&&◌, ◌==◌, List, Some, None, Option}
use Rattle.std.specs.Option.{option_partial_cmp}
use Rattle.std.specs.declared.cmp.Ordering.{Ordering}
use Rattle.std.specs.declared.cmp.Ordering.TheVariants.{Less, Equal, Greater}
use Rattle.std.specs.Ordering.{nat_cmp, partial_le, partial_ordering_then}
use Rattle.std.specs.Str.{bytes_eq}
use Rattle.std.specs.List.{fold, list_all, zip}
use Rattle.version.specs.declared.seen.Seen.{Seen}
use Rattle.version.specs.declared.version.Version.{Version}

-- of values that are comparable only where they are the same
abbrev pub alike : List ℕ → List ℕ → Option Ordering
alike a b = cond (bytes_eq a b) (Some Equal) None

-- of two slots with an operation: by their timestamps, and equal ones only where the digests are equal too
abbrev pub seen_cmp : Seen → Seen → Option Ordering
seen_cmp a b = partial_ordering_then (Some (nat_cmp a.timestamp b.timestamp)) (alike a.digest b.digest)

-- whether u is at or below v
abbrev pub under : Version → Version → Bool
under u v = u.size == v.size && list_all (λ p. partial_le (option_partial_cmp seen_cmp) p.0 p.1) (zip u.seen v.seen)

-- the answer, where it is known whether each is at or below the other
abbrev pub both_ways : Bool → Bool → Option Ordering
both_ways true true = Some Equal
both_ways true false = Some Less
both_ways false true = Some Greater
both_ways false false = None

unfoldable pub compared : Version → Version → Option Ordering
compared u v = both_ways (under u v) (under v u)

-- whether each is at or below the other, at one place more
abbrev pub and_here : Bool × Bool → Option Ordering → Bool × Bool
and_here so_far (Some Less) = (so_far.0, false)
and_here so_far (Some Equal) = (so_far.0, so_far.1)
and_here so_far (Some Greater) = (false, so_far.1)
and_here so_far None = (false, false)

-- whether each slot on the left is at or below the one on the right, and each on the right at or below the one on the left
abbrev pub both_below : List (Option Seen) → List (Option Seen) → Bool × Bool
both_below xs ys = fold (λ so_far p. and_here so_far (option_partial_cmp seen_cmp p.0 p.1)) (true, true) (zip xs ys)
