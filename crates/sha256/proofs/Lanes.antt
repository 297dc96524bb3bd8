-- vectors of four words
use Rattle.std.proofs.Common.{◌≡◌, ℕ, ◌+◌, ◌<◌, List, [], ◌∷◌, length, get_or, refl, ap, arith}
use Rattle.sha256.specs.Compression.{next_of}
use Rattle.sha256.specs.Window.{Scheduled, four_at}
use Rattle.sha256.specs.Words.{plus, σ0, σ1}

pub lanes : (x : List ℕ) → length x ≡ 4 → (a : ℕ) × (b : ℕ) × (c : ℕ) × (d : ℕ) × (x ≡ a ∷ b ∷ c ∷ d ∷ [])
lanes [] l = absurd (omega arith)
lanes (a ∷ []) l = absurd (omega arith)
lanes (a ∷ b ∷ []) l = absurd (omega arith)
lanes (a ∷ b ∷ c ∷ []) l = absurd (omega arith)
lanes (a ∷ b ∷ c ∷ d ∷ []) l = (a, b, c, d, refl)
lanes (a ∷ b ∷ c ∷ d ∷ e ∷ x) l = absurd (omega arith)

-- a word of the schedule, with its four parts in the order that the vectors add them
lane : (W : List ℕ) → Scheduled W → (i i₁ i₉ i₁₄ i₁₆ : ℕ) → i < 48 → i₁ ≡ i + 1 → i₉ ≡ i + 9 → i₁₄ ≡ i + 14 → i₁₆ ≡ i + 16
    → plus (plus (plus (get_or W i 0) (σ0 (get_or W i₁ 0))) (get_or W i₉ 0)) (σ1 (get_or W i₁₄ 0)) ≡ get_or W i₁₆ 0
unfolding next_of
lane W S i i₁ i₉ i₁₄ i₁₆ h n₁ n₉ n₁₄ n₁₆ =
    let s = S i h in
    let e₁ = ap (λ z. σ0 (get_or W z 0)) n₁ in
    let e₉ = ap (λ z. get_or W z 0) n₉ in
    let e₁₄ = ap (λ z. σ1 (get_or W z 0)) n₁₄ in
    let e₁₆ = ap (λ z. get_or W z 0) n₁₆ in
    omega arith

plus_zero : (x y : ℕ) → plus (plus x y) 0 ≡ plus x y
plus_zero x y = omega arith

-- what `next` adds up, lane by lane
pub four_more : (W : List ℕ) (t s₀ s₁ s₂ s₃ : ℕ) → Scheduled W → t < 45
    → s₀ ≡ plus (plus (get_or W t 0) (σ0 (get_or W (t + 1) 0))) (get_or W (t + 8 + 1) 0)
    → s₁ ≡ plus (plus (get_or W (t + 1) 0) (σ0 (get_or W (t + 2) 0))) (get_or W (t + 8 + 2) 0)
    → s₂ ≡ plus (plus (get_or W (t + 2) 0) (σ0 (get_or W (t + 3) 0))) (get_or W (t + 8 + 3) 0)
    → s₃ ≡ plus (plus (get_or W (t + 3) 0) (σ0 (get_or W (t + 4) 0))) (get_or W (t + 12) 0)
    → (let f₀ = plus s₀ (σ1 (get_or W (t + 12 + 2) 0)) in
    let f₁ = plus s₁ (σ1 (get_or W (t + 12 + 3) 0)) in
    ◌≡◌ {A = List ℕ} (plus f₀ 0 ∷ plus f₁ 0 ∷ plus (plus s₂ 0) (σ1 f₀) ∷ plus (plus s₃ 0) (σ1 f₁) ∷ []) (four_at W (t + 16)))
unfolding four_at
four_more W t s₀ s₁ s₂ s₃ S h e₀ e₁ e₂ e₃ =
    let f₀ : ℕ = plus s₀ (σ1 (get_or W (t + 12 + 2) 0)) in
    let f₁ : ℕ = plus s₁ (σ1 (get_or W (t + 12 + 3) 0)) in
    let l₀ = lane W S t (t + 1) (t + 8 + 1) (t + 12 + 2) (t + 16) (omega arith) (omega arith) (omega arith) (omega arith) (omega arith) in
    let l₁ = lane W S (t + 1) (t + 2) (t + 8 + 2) (t + 12 + 3) (t + 16 + 1) (omega arith) (omega arith) (omega arith) (omega arith) (omega arith) in
    let l₂ = lane W S (t + 2) (t + 3) (t + 8 + 3) (t + 16) (t + 16 + 2) (omega arith) (omega arith) (omega arith) (omega arith) (omega arith) in
    let l₃ = lane W S (t + 3) (t + 4) (t + 12) (t + 16 + 1) (t + 16 + 3) (omega arith) (omega arith) (omega arith) (omega arith) (omega arith) in
    let z₀ = plus_zero s₀ (σ1 (get_or W (t + 12 + 2) 0)) in
    let z₁ = plus_zero s₁ (σ1 (get_or W (t + 12 + 3) 0)) in
    let z₂ = plus_zero (plus (get_or W (t + 2) 0) (σ0 (get_or W (t + 3) 0))) (get_or W (t + 8 + 3) 0) in
    let z₃ = plus_zero (plus (get_or W (t + 3) 0) (σ0 (get_or W (t + 4) 0))) (get_or W (t + 12) 0) in
    cc
