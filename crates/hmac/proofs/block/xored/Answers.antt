use Rattle.std.proofs.Common.{◌≡◌, ℕ, ◌≤◌, List, ◌++◌, map, length, take, drop, ap, ◌∙◌, arith, rules}
use lib.Bits.{bit_xor}
use Rattle.std.proofs.lemmas.List.Edits.{map_over_more}
use Rattle.std.proofs.lemmas.List.{append-nil, drop_all, take_all, length-append, length-drop, length-map, length-take}
use Rattle.hmac.specs.Hmac.{xored}
use Rattle.hmac.proofs.block.xored.Goals as goal

pub loop-b-preserved : goal.loop-b-preserved
loop-b-preserved c = search (rules, map_over_more (λ x. bit_xor x c.args.byte))

-- the end of the loop
all : (f : ℕ → ℕ) (xs ys : List ℕ) (i : ℕ) → length ys ≤ i → ys ≡ map f (take i xs) ++ drop i xs → ys ≡ map f xs
all f xs ys i past e =
    let n = simp (length-append, length-map, length-take, length-drop) at (ap length e) in
    let long : length xs ≤ i = omega arith in
    e ∙ rw (take_all i xs long, drop_all i xs long) (append-nil (map f xs))

pub returns : goal.returns
unfolding xored
returns c = all (λ x. bit_xor x c.args.byte) c.args.block c.loop-b.b-items c.loop-b.b-index (omega arith) c.loop-b.invariant
