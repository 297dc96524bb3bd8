-- Numbers and their bytes give each other back, at every width.
use Rattle.std.proofs.Common.{◌≡◌, ℕ, zero, suc, ◌+◌, ◌*◌, ◌/◌, ◌%◌, ◌^◌, ◌<◌, ◌≤◌, List, [], ◌∷◌, ◌++◌, length, get_or, take, sym, refl, ap, ◌∙◌, ⊎_elim, pow-suc, arith}
use Rattle.std.proofs.lemmas.List.{length-append, length-take-le, take_more, take_all, get_or-take, get_or_past}
use Rattle.std.proofs.lemmas.Bool.{cases_lt}
use Rattle.octets.specs.Numbers.{Bytes, number_after, number, big_endian}

pub length-big_endian : (width n : ℕ) → length (big_endian width n) ≡ width
length-big_endian zero n = refl
length-big_endian (suc width) n = length-append (big_endian width (n / 256)) ((n % 256) ∷ []) ∙ rw (length-big_endian width (n / 256)) (omega arith)

number_push : (n : ℕ) (bs : List ℕ) (b : ℕ) → number_after n (bs ++ b ∷ []) ≡ number_after n bs * 256 + b
number_push n [] b = refl
number_push n (x ∷ bs) b = number_push (n * 256 + x) bs b

-- 256 ^ suc width as omega can use it
power : (width : ℕ) → 256 ^ suc width ≡ 256 ^ width * 256
power width = pow-suc 256 width

pub number-big_endian : (width n : ℕ) → n < 256 ^ width → number (big_endian width n) ≡ n
number-big_endian zero n h = omega arith
number-big_endian (suc width) n h =
    let p = power width in
    number_push 0 (big_endian width (n / 256)) (n % 256)
    ∙ rw (number-big_endian width (n / 256) (omega arith)) (omega arith)

-- all but the last of the bytes, and the last
last : (bs : List ℕ) (n : ℕ) → length bs ≡ suc n → bs ≡ take n bs ++ get_or bs n 0 ∷ []
last bs n l = sym (take_all (n + 1) bs (omega arith)) ∙ take_more bs n 0 (omega arith)

bytes_take : (bs : List ℕ) (n : ℕ) → n ≤ length bs → Bytes bs → Bytes (take n bs)
bytes_take bs n l h k =
    ⊎_elim
    (λ (lt : k < n). rw (get_or-take n bs k 0 lt) (h k))
    (λ (le : n ≤ k). let m = length-take-le n bs l in rw (get_or_past (take n bs) k 0 (omega arith)) (omega arith))
    (cases_lt k n)

pub big_endian-number : (width : ℕ) (bs : List ℕ) → length bs ≡ width → Bytes bs → (big_endian width (number bs) ≡ bs) × (number bs < 256 ^ width)
big_endian-number zero [] l h = (refl, omega arith)
big_endian-number zero (b ∷ bs) l h = absurd (omega arith)
big_endian-number (suc n) bs l h =
    let e = last bs n l in
    let b = h n in
    let p = power n in
    let r = big_endian-number n (take n bs) (length-take-le n bs (omega arith)) (bytes_take bs n (omega arith) h) in
    let s : number bs ≡ number (take n bs) * 256 + get_or bs n 0 = ap number e ∙ number_push 0 (take n bs) (get_or bs n 0) in
    let front : number bs / 256 ≡ number (take n bs) = omega arith in
    let back : number bs % 256 ≡ get_or bs n 0 = omega arith in
    let low = r.1 in
    (rw (front, back, r.0) (sym e), omega arith)
