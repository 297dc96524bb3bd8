-- the padding of the standard, and the last block as the code lays it out
use Rattle.std.proofs.Common.{◌≡◌, ℕ, zero, suc, ◌+◌, ◌-◌, ◌*◌, ◌/◌, ◌%◌, ◌<◌, List, [], ◌∷◌, ◌++◌, length, get_or, drop, set, replicate, sym, refl, ap, ◌∙◌, add-one, arith}
use lib.Bits.{bit_xor}
use Rattle.std.proofs.lemmas.List.{set_at, get_or_at, drop-replicate, length-append, length-replicate, replicate_more, set-append_right, get_or-append_right}
use Rattle.sha3.specs.Sha3.{octets, padding}

-- B.2, table 6: the padding as q bytes
abbrev table : ℕ → List ℕ
table zero = []
table (suc zero) = 0x86 ∷ []
table (suc (suc k)) = 0x06 ∷ (replicate k 0 ++ 0x80 ∷ [])

-- its bytes after the first
ended : (k : ℕ) → octets (suc k) (replicate (8 * k + 7) 0 ++ 1 ∷ []) ≡ replicate k 0 ++ 0x80 ∷ []
ended zero = refl
ended (suc k) =
    let e : 8 * suc k + 7 ≡ suc (suc (suc (suc (suc (suc (suc (suc (8 * k + 7)))))))) = omega arith in
    ap (λ z. octets (suc (suc k)) (replicate z 0 ++ 1 ∷ [])) e ∙ ap (λ z. 0 ∷ z) (ended k)

-- its bits, with j zeros
abbrev bits : ℕ → List ℕ
bits j = 0 ∷ 1 ∷ 1 ∷ (replicate j 0 ++ 1 ∷ [])

tabled : (q : ℕ) → octets (length (bits (8 * q + 4)) / 8) (bits (8 * q + 4)) ≡ table (suc q)
tabled zero = refl
tabled (suc k) =
    let e : 8 * suc k + 4 ≡ suc (suc (suc (suc (suc (8 * k + 7))))) = omega arith in
    let zs : List ℕ = replicate (8 * k + 7) 0 in
    let l : length (zs ++ 1 ∷ []) ≡ 8 * k + 8 = length-append zs (1 ∷ []) ∙ ap (λ z. z + 1) (length-replicate (8 * k + 7) 0) ∙ omega arith in
    let n : suc (suc (suc (suc (suc (suc (suc (suc (length (zs ++ 1 ∷ []))))))))) / 8 ≡ suc (suc k) = omega arith in
    ap (λ z. octets (length (bits z) / 8) (bits z)) e
    ∙ ap (λ z. octets z (bits (suc (suc (suc (suc (suc (8 * k + 7)))))))) n
    ∙ ap (λ z. 6 ∷ z) (ended k)

padding_table : (n : ℕ) → padding n ≡ table (136 - n % 136)
unfolding padding
padding_table n =
    let j : (1088 - (8 * n + 2 + 2) % 1088) % 1088 ≡ 8 * (135 - n % 136) + 4 = omega arith in
    let q : suc (135 - n % 136) ≡ 136 - n % 136 = omega arith in
    ap (λ z. octets (length (bits z) / 8) (bits z)) j ∙ tabled (135 - n % 136) ∙ ap table q

-- it fills the last block
table-length : (q : ℕ) → length (table q) ≡ q
table-length zero = refl
table-length (suc zero) = refl
table-length (suc (suc k)) =
    let zs : List ℕ = replicate k 0 in
    let l : length (zs ++ 0x80 ∷ []) ≡ suc k = length-append zs (0x80 ∷ []) ∙ ap (λ z. z + 1) (length-replicate k 0) ∙ add-one k in
    ap suc l

pub padding-length : (n : ℕ) → length (padding n) ≡ 136 - n % 136
padding-length n = ap length (padding_table n) ∙ table-length (136 - n % 136)

-- it depends on the length of the last block alone
pub padding_mod : (m n : ℕ) → m % 136 ≡ n % 136 → padding m ≡ padding n
padding_mod m n e = padding_table m ∙ ap (λ z. table (136 - z)) e ∙ sym (padding_table n)

-- the last bit of the padding, over the last of m + 1 bytes
last_bit : (m : ℕ) → set (6 ∷ replicate m 0) m (bit_xor (get_or (6 ∷ replicate m 0) m 0) 128) ≡ table (suc m)
last_bit zero = refl
last_bit (suc j) =
    let e : replicate (suc j) 0 ≡ replicate j 0 ++ 0 ∷ [] = ap (λ n. replicate n 0) (sym (add-one j)) ∙ sym (replicate_more j 0) in
    ap (λ z. set (6 ∷ z) (suc j) (bit_xor (get_or (6 ∷ z) (suc j) 0) 128)) e
    ∙ ap (λ v. 6 ∷ set (replicate j 0 ++ 0 ∷ []) j (bit_xor v 128)) (get_or_at (replicate j 0) 0 [] 0 j (length-replicate j 0))
    ∙ ap (λ z. 6 ∷ z) (set_at (replicate j 0) 0 [] 128 j (length-replicate j 0))

-- zeros with the bytes `rest` in front, and the first and the last bits of the padding laid over them
pub laid : (rest t : List ℕ) → length rest < 136 → t ≡ rest ++ drop (length rest) (replicate 136 0)
    → set (set t (length rest) 6) 135 (bit_xor (get_or (set t (length rest) 6) 135 0) 128) ≡ rest ++ padding (length rest)
laid rest t short p =
    let k : ℕ = length rest in
    let zs : List ℕ = replicate (135 - k) 0 in
    let more : 136 - k ≡ suc (135 - k) = omega arith in
    let q₁ : t ≡ rest ++ (0 ∷ zs) = p ∙ ap (λ y. rest ++ y) (drop-replicate k 136 0) ∙ ap (λ j. rest ++ replicate j 0) more in
    let q₂ : set t k 6 ≡ rest ++ (6 ∷ zs) = ap (λ y. set y k 6) q₁ ∙ set_at rest 0 zs 6 k refl in
    let at : get_or (rest ++ (6 ∷ zs)) 135 0 ≡ get_or (6 ∷ zs) (135 - k) 0 = get_or-append_right rest (6 ∷ zs) k 135 0 refl (omega arith) in
    let size : suc (135 - k) ≡ 136 - k % 136 = omega arith in
    ap (λ y. set y 135 (bit_xor (get_or y 135 0) 128)) q₂
    ∙ ap (λ v. set (rest ++ (6 ∷ zs)) 135 (bit_xor v 128)) at
    ∙ set-append_right rest (6 ∷ zs) k 135 (bit_xor (get_or (6 ∷ zs) (135 - k) 0) 128) refl (omega arith)
    ∙ ap (λ y. rest ++ y) (last_bit (135 - k) ∙ ap table size ∙ sym (padding_table k))
