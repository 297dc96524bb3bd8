-- The proof signatures of all sites, one behind the other.
use Rattle.std.proofs.Common.{◌≡◌, ℕ, zero, suc, ◌+◌, ◌-◌, ◌*◌, ◌<◌, ◌≤◌, List, map, length, drop, sym, refl, ap, ◌∙◌, add-zero, mul-le-mul, mul-le-mul_left, mul-suc, arith, below_more}
use borrow.Rule.Slice.PartMut.{put_mid}
use Rattle.std.specs.List.{range_with_len}
use Rattle.std.proofs.lemmas.List.{length-append, length-drop, length-take-le, drop-take}
use Rattle.std.proofs.lemmas.Slice.{take-put_mid_below, between-put_mid}
use Rattle.message.specs.Places.{bytes_at}
use Rattle.message.specs.Reply.{signatures}

-- eight signatures of at most 64 bytes
pub room_for : (g k n : ℕ) → g ≤ 64 → k < n → n ≤ 8 → g * k + g ≤ 512
room_for g k n a b c =
    let s : suc k ≤ 8 = omega arith in
    let m : g * suc k ≤ 64 * 8 = mul-le-mul a s in
    omega (arith, mul-suc g k)

-- one signature more, at its place
module _ (out part : List ℕ) (g i : ℕ) (f : ℕ → List ℕ) (whole : length out ≡ 512) (room : g * i + g ≤ 512) (long : length part ≡ g) where
  kept : (k : ℕ) → k < i → bytes_at (put_mid (g * i) (g * i + g - g * i) out part) (0 + g * k) g ≡ bytes_at out (0 + g * k) g
  kept k lt =
      let m : g * suc k ≤ g * i = mul-le-mul_left g lt in
      let s = mul-suc g k in
      sym (drop-take (0 + g * k) g (put_mid (g * i) (g * i + g - g * i) out part))
      ∙ ap (drop (0 + g * k)) (take-put_mid_below (g * i) (g * i + g - g * i) out part (0 + g * k + g) (omega arith) (omega arith))
      ∙ drop-take (0 + g * k) g out

  here : bytes_at (put_mid (g * i) (g * i + g - g * i) out part) (0 + g * i) g ≡ part
  here =
      let z : 0 + g * i ≡ g * i = omega arith in
      let e : g * i + g - g * i ≡ g = omega arith in
      rw (z, e) (rw e at (between-put_mid (g * i) g out part (g * i + g) (omega arith) (omega arith)))

  pub proofs_more : part ≡ f (i + 1) → ((k : ℕ) → k < i → bytes_at out (0 + g * k) g ≡ f (k + 1))
      → (length (put_mid (g * i) (g * i + g - g * i) out part) ≡ 512)
      × ((k : ℕ) → k < i + 1 → bytes_at (put_mid (g * i) (g * i + g - g * i) out part) (0 + g * k) g ≡ f (k + 1))
  proofs_more is before =
      let t = length-take-le (g * i) out (omega arith) in
      (simp (length-append, length-drop, t) (omega arith), below_more _ i (λ k lt. kept k lt ∙ before k lt) (here ∙ is))

-- all of them
counted : {X : Type 0} (f h : ℕ → X) (a b n : ℕ) → ((k : ℕ) → k < n → f (a + k) ≡ h (b + k)) → map f (range_with_len a n) ≡ map h (range_with_len b n)
counted f h a b zero e = refl
counted f h a b (suc n) e =
    let first : f a ≡ h b = rw (add-zero a, add-zero b) at (e 0 (omega arith)) in
    let rest = counted f h (a + 1) (b + 1) n (λ k lt.
    let p : a + 1 + k ≡ a + suc k = omega arith in
    let q : b + 1 + k ≡ b + suc k = omega arith in
    rw (p, q) (e (suc k) (omega arith))) in
    cc

pub proofs_all : (out : List ℕ) (g i n : ℕ) (f : ℕ → List ℕ) → n ≤ i → ((k : ℕ) → k < i → bytes_at out (0 + g * k) g ≡ f (k + 1)) → signatures g out n 0 ≡ map f (range_with_len 1 n)
proofs_all out g i n f le each =
    counted (λ k. bytes_at out (0 + g * k) g) f 0 1 n (λ k lt.
    let p : 0 + k ≡ k = omega arith in
    let q : 1 + k ≡ k + 1 = omega arith in
    rw (p, q) (each k (omega arith)))
