-- the lanes of a block, mixed into a state one after the other
use Rattle.std.proofs.Common.{◌≡◌, ℕ, ◌+◌, ◌*◌, ◌^◌, ◌<◌, ◌≤◌, List, [], length, get_or, set, map, sym, ap, ◌∙◌, ⊎_elim, zero-add, add-zero, arith, lit<, length-set}
use lib.Bits.{bit_xor}
use Rattle.std.specs.List.{range_with_len}
use Rattle.std.specs.Simd.{first_chunks}
use Rattle.digest.proofs.Blocks.{byte_chunked}
use Rattle.std.proofs.lemmas.Bool.{cases_lt}
use Rattle.std.proofs.lemmas.Grind.{get_or_default_zero, get_or-set_at}
use Rattle.std.proofs.lemmas.List.{same_lists, get_or-set_other}
use Rattle.std.proofs.lemmas.List.FromFn.{get_or-map-range_with_len}
use Rattle.sha3.specs.Lanes.{past}
use Rattle.sha3.specs.Sha3.{lane_of, xored}

-- B is A with the first i lanes of P mixed in
pub record Mixed (A P B : List ℕ) (i : ℕ) : Type 0 where
  pub len : length B ≡ 25
  pub done : (k : ℕ) → k < i → get_or B k 0 ≡ bit_xor (get_or A k 0) (lane_of P k)
  pub rest : (k : ℕ) → i ≤ k → get_or B k 0 ≡ get_or A k 0

-- one lane more
pub mixed_more : (A P B : List ℕ) (i v : ℕ) → i < 25 → Mixed A P B i → v ≡ lane_of P i → Mixed A P (set B i (bit_xor (get_or B i 0) v)) (i + 1)
mixed_more A P B i v h m e =
    let x : ℕ = bit_xor (get_or B i 0) v in
    let here : (k : ℕ) → k ≡ i → get_or (set B i x) k 0 ≡ bit_xor (get_or A k 0) (lane_of P k) =
    λ k q. get_or-set_at B i k x 0 q (omega (arith, m.len)) ∙ ap (λ z. bit_xor z v) (m.rest i (omega arith)) ∙ ap (bit_xor (get_or A i 0)) e ∙ ap (λ z. bit_xor (get_or A z 0) (lane_of P z)) (sym q) in
    record {
      len = length-set B i x ∙ m.len;
      done = λ k l. ⊎_elim (λ b. get_or-set_other B i k x 0 (λ q. omega arith) ∙ m.done k b) (λ b. here k (omega arith)) (cases_lt k i);
      rest = λ k l. get_or-set_other B i k x 0 (λ q. omega arith) ∙ m.rest k (omega arith);
    }

-- all lanes of a block: past its end the state keeps its own
pub mixed_all : (A P B : List ℕ) → length P ≡ 136 → Mixed A P B 17 → B ≡ xored A P
unfolding xored
mixed_all A P B l m =
    let f : ℕ → ℕ = λ k. bit_xor (get_or A k 0) (lane_of P k) in
    let all : (k : ℕ) → get_or B k 0 ≡ f k =
    λ k. ⊎_elim (λ b. m.done k b) (λ b. m.rest k b ∙ sym (past P k (omega arith) (get_or A k 0))) (cases_lt k 17) in
    same_lists B (map f (range_with_len 0 25)) m.len
    (λ k d h. get_or_default_zero B k d h ∙ all k ∙ sym (get_or-map-range_with_len f 0 25 k k d (omega (arith, m.len)) (zero-add k)))

-- a lane of a block as a number, from its bytes
pub lane_read : (P : List ℕ) (chunks : List (List ℕ)) (i v : ℕ) → chunks ≡ first_chunks 8 17 P → i < 17
    → (let b : List ℕ = get_or chunks i [] in
    v ≡ get_or b 0 0 + get_or b 1 0 * 2 ^ 8 + get_or b 2 0 * 2 ^ 16 + get_or b 3 0 * 2 ^ 24 + get_or b 4 0 * 2 ^ 32 + get_or b 5 0 * 2 ^ 40 + get_or b 6 0 * 2 ^ 48 + get_or b 7 0 * 2 ^ 56)
    → v ≡ lane_of P i
unfolding lane_of
lane_read P chunks i v e h s =
    let at : (k : ℕ) → k < 8 → get_or (get_or chunks i []) k 0 ≡ get_or P (8 * i + k) 0 =
    λ k l. ap (λ z. get_or (get_or z i []) k 0) e ∙ byte_chunked 8 17 i k P [] h l in
    let first = at 0 (lit< tt) ∙ ap (λ n. get_or P n 0) (add-zero (8 * i)) in
    s ∙ rw (first, at 1 (lit< tt), at 2 (lit< tt), at 3 (lit< tt), at 4 (lit< tt), at 5 (lit< tt), at 6 (lit< tt), at 7 (lit< tt))
