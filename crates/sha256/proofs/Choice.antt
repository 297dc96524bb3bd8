-- Ch with one operation less: where a bit of x is set the bit of y, else that of z
use Rattle.std.proofs.Common.{◌≡◌, ℕ, zero, suc, ◌-◌, ◌/◌, ◌%◌, ◌^◌, ◌<◌, sym, refl, ap, ◌∙◌, pow-suc, arith}
use lib.Bits.{bit_and, bit_xor, and_mod, and_shr, xor_mod, xor_shr}

by_digits : (a b : ℕ) → a / 2 ≡ b / 2 → a % 2 ≡ b % 2 → a ≡ b
by_digits a b h l = omega arith

digit : (x y z : ℕ) → x < 2 → y < 2 → z < 2 → bit_xor z (bit_and x (bit_xor y z)) ≡ bit_xor (bit_and x y) (bit_and (1 - x) z)
digit zero zero zero hx hy hz = refl
digit zero zero (suc zero) hx hy hz = refl
digit zero (suc zero) zero hx hy hz = refl
digit zero (suc zero) (suc zero) hx hy hz = refl
digit (suc zero) zero zero hx hy hz = refl
digit (suc zero) zero (suc zero) hx hy hz = refl
digit (suc zero) (suc zero) zero hx hy hz = refl
digit (suc zero) (suc zero) (suc zero) hx hy hz = refl
digit (suc (suc x)) y z hx hy hz = absurd (omega arith)
digit zero (suc (suc y)) z hx hy hz = absurd (omega arith)
digit (suc zero) (suc (suc y)) z hx hy hz = absurd (omega arith)
digit zero zero (suc (suc z)) hx hy hz = absurd (omega arith)
digit zero (suc zero) (suc (suc z)) hx hy hz = absurd (omega arith)
digit (suc zero) zero (suc (suc z)) hx hy hz = absurd (omega arith)
digit (suc zero) (suc zero) (suc (suc z)) hx hy hz = absurd (omega arith)

-- at numbers of k bits
pub choice : (k x y z : ℕ) → x < 2 ^ k → z < 2 ^ k → bit_xor z (bit_and x (bit_xor y z)) ≡ bit_xor (bit_and x y) (bit_and (2 ^ k - 1 - x) z)
choice zero x y z hx hz =
    let ex : x ≡ 0 = omega arith in
    let ez : z ≡ 0 = omega arith in
    rw (ex, ez) refl
choice (suc k) x y z hx hz =
    let p = pow-suc 2 k in
    let m : (2 ^ suc k - 1 - x) / 2 ≡ 2 ^ k - 1 - x / 2 = omega arith in
    let n : (2 ^ suc k - 1 - x) % 2 ≡ 1 - x % 2 = omega arith in
    let M : ℕ = 2 ^ suc k - 1 - x in
    let high : bit_xor z (bit_and x (bit_xor y z)) / 2 ≡ bit_xor (bit_and x y) (bit_and M z) / 2 =
    xor_shr z (bit_and x (bit_xor y z)) 1 ∙ ap (bit_xor (z / 2)) (and_shr x (bit_xor y z) 1 ∙ ap (bit_and (x / 2)) (xor_shr y z 1))
    ∙ choice k (x / 2) (y / 2) (z / 2) (omega arith) (omega arith)
    ∙ ap (λ q. bit_xor (bit_and (x / 2) (y / 2)) (bit_and q (z / 2))) (sym m)
    ∙ sym (xor_shr (bit_and x y) (bit_and M z) 1 ∙ ap (λ q. bit_xor q (bit_and M z / 2)) (and_shr x y 1) ∙ ap (bit_xor (bit_and (x / 2) (y / 2))) (and_shr M z 1)) in
    let low : bit_xor z (bit_and x (bit_xor y z)) % 2 ≡ bit_xor (bit_and x y) (bit_and M z) % 2 =
    xor_mod z (bit_and x (bit_xor y z)) 1 ∙ ap (bit_xor (z % 2)) (and_mod x (bit_xor y z) 1 ∙ ap (bit_and (x % 2)) (xor_mod y z 1))
    ∙ digit (x % 2) (y % 2) (z % 2) (omega arith) (omega arith) (omega arith)
    ∙ ap (λ q. bit_xor (bit_and (x % 2) (y % 2)) (bit_and q (z % 2))) (sym n)
    ∙ sym (xor_mod (bit_and x y) (bit_and M z) 1 ∙ ap (λ q. bit_xor q (bit_and M z % 2)) (and_mod x y 1) ∙ ap (bit_xor (bit_and (x % 2) (y % 2))) (and_mod M z 1)) in
    by_digits _ _ high low
