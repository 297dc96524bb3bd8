-- the lanes of a block, and of the digest
use Rattle.std.specs.Prelude.{◌≡◌, ℕ, zero, suc, ◌+◌, ◌*◌, ◌/◌, ◌%◌, ◌^◌, ◌<◌, ◌≤◌, List, [], ◌∷◌, ◌++◌, length, take, drop, replicate, bit_xor, slice_index}
use Rattle.std.proofs.Math.Path.{refl, ap}
use Rattle.std.proofs.Common.{sym, ◌∙◌, mod-lt, lit<}
use mathlib.Core.List.{append_assoc, append-nil}
use native.Mathlib.Omega.{arith}
use Rattle.std.specs.Int.Bits.{xor_zero_r}
use Rattle.std.proofs.Math.Seq.{drop-append-add}
use Rattle.std.proofs.lemmas.List.{get_or_past, length-append, take_at}
use Rattle.sha3.specs.Keccak.{lane}
use Rattle.sha3.specs.Sha3.{bytes_of, lane_of, squeezed}

-- a lane past the end is zero, and changes nothing
pub past : (P : List ℕ) (i : ℕ) → length P ≤ 8 * i → (v : ℕ) → bit_xor v (lane_of P i) ≡ v
unfolding lane_of
past P i h v =
    let at : (k : ℕ) → slice_index P (8 * i + k) ≡ 0 = λ k. get_or_past P (8 * i + k) 0 (omega arith) in
    let z : lane_of P i ≡ 0 = rw (get_or_past P (8 * i) 0 h, at 1, at 2, at 3, at 4, at 5, at 6, at 7) in
    ap (bit_xor v) z ∙ xor_zero_r v

-- w put after p
put_after : (p z w t u : List ℕ) (n : ℕ) → length p ≡ n → t ≡ p ++ z → u ≡ take n t ++ (w ++ drop (n + length w) t) → u ≡ (p ++ w) ++ drop (length w) z
put_after p z w t u n l e f =
    f
    ∙ ap (λ k. take n k ++ (w ++ drop (n + length w) k)) e
    ∙ ap (λ k. k ++ (w ++ drop (n + length w) (p ++ z))) (take_at p z n l)
    ∙ ap (λ k. p ++ (w ++ drop (k + length w) (p ++ z))) (sym l)
    ∙ ap (λ k. p ++ (w ++ k)) (drop-append-add p z (length w))
    ∙ sym (append_assoc p w (drop (length w) z))

-- the bytes of four lanes, put one after the other
module _ (S w₀ w₁ w₂ w₃ : List ℕ) (b₀ : w₀ ≡ bytes_of (lane S 0 0)) (b₁ : w₁ ≡ bytes_of (lane S 1 0)) (b₂ : w₂ ≡ bytes_of (lane S 2 0)) (b₃ : w₃ ≡ bytes_of (lane S 3 0)) where
  pub four : (t₁ t₂ t₃ t₄ : List ℕ)
      → t₁ ≡ w₀ ++ drop (0 + length w₀) (replicate 32 0)
      → t₂ ≡ take 8 t₁ ++ (w₁ ++ drop (8 + length w₁) t₁)
      → t₃ ≡ take 16 t₂ ++ (w₂ ++ drop (16 + length w₂) t₂)
      → t₄ ≡ take 24 t₃ ++ (w₃ ++ drop (24 + length w₃) t₃)
      → t₄ ≡ squeezed S
  unfolding squeezed
  four t₁ t₂ t₃ t₄ p₁ p₂ p₃ p₄ =
      let z : List ℕ = replicate 32 0 in
      let l₀ : length w₀ ≡ 8 = ap length b₀ in
      let l₁ : length w₁ ≡ 8 = ap length b₁ in
      let l₂ : length w₂ ≡ 8 = ap length b₂ in
      let l₃ : length w₃ ≡ 8 = ap length b₃ in
      let e₁ = put_after [] z w₀ z t₁ 0 refl refl p₁ in
      let e₂ = put_after w₀ (drop (length w₀) z) w₁ t₁ t₂ 8 l₀ e₁ p₂ in
      let l₀₁ : length (w₀ ++ w₁) ≡ 16 = length-append w₀ w₁ ∙ omega arith in
      let e₃ = put_after (w₀ ++ w₁) (drop (length w₁) (drop (length w₀) z)) w₂ t₂ t₃ 16 l₀₁ e₂ p₃ in
      let l₀₂ : length (w₀ ++ w₁ ++ w₂) ≡ 24 = length-append (w₀ ++ w₁) w₂ ∙ omega arith in
      let e₄ = put_after (w₀ ++ w₁ ++ w₂) (drop (length w₂) (drop (length w₁) (drop (length w₀) z))) w₃ t₃ t₄ 24 l₀₂ e₃ p₄ in
      let none : drop (length w₃) (drop (length w₂) (drop (length w₁) (drop (length w₀) z))) ≡ [] = rw (l₀, l₁, l₂, l₃) in
      e₄ ∙ ap (λ k. w₀ ++ w₁ ++ w₂ ++ w₃ ++ k) none ∙ append-nil (w₀ ++ w₁ ++ w₂ ++ w₃)
      ∙ rw (b₀, b₁, b₂, b₃)

-- the bytes of a digest are below 256
abbrev Small : List ℕ → Type 0
Small [] = Unit {0}
Small (x ∷ l) = (x < 256) × Small l

small_append : (l m : List ℕ) → Small l → Small m → Small (l ++ m)
small_append [] m f g = g
small_append (x ∷ l) m f g = (f.0, small_append l m f.1 g)

small_at : (l : List ℕ) → Small l → (k : ℕ) → slice_index l k < 256
small_at [] h k = lit< tt
small_at (x ∷ l) h zero = h.0
small_at (x ∷ l) h (suc k) = small_at l h.1 k

small_lane : (v : ℕ) → Small (bytes_of v)
small_lane v =
    let m : (x : ℕ) → x % 256 < 256 = λ x. mod-lt x (lit< tt) in
    (m v, (m (v / 2 ^ 8), (m (v / 2 ^ 16), (m (v / 2 ^ 24), (m (v / 2 ^ 32), (m (v / 2 ^ 40), (m (v / 2 ^ 48), (m (v / 2 ^ 56), tt))))))))

pub squeezed_bytes : (S : List ℕ) (k : ℕ) → slice_index (squeezed S) k < 256
unfolding squeezed
squeezed_bytes S =
    let b : (x : ℕ) → List ℕ = λ x. bytes_of (lane S x 0) in
    let s : (x : ℕ) → Small (b x) = λ x. small_lane (lane S x 0) in
    small_at (b 0 ++ b 1 ++ b 2 ++ b 3)
    (small_append (b 0 ++ b 1 ++ b 2) (b 3) (small_append (b 0 ++ b 1) (b 2) (small_append (b 0) (b 1) (s 0) (s 1)) (s 2)) (s 3))
