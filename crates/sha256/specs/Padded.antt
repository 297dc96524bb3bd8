-- the bytes that the code lays out: the last block or two of a message, and the digest
use Rattle.std.specs.Prelude.{◌≡◌, ℕ, zero, suc, ◌+◌, ◌-◌, ◌*◌, ◌/◌, ◌%◌, ◌^◌, ◌<◌, ◌≤◌, List, [], ◌∷◌, ◌++◌, length, take, drop, set, replicate, slice_index, slice_set, refl}
use Rattle.std.proofs.Common.{ap, sym, ◌∙◌, append_assoc, arith, lit<, length-append}
use Rattle.std.proofs.Math.Seq.{take-append-add}
use Rattle.std.proofs.lemmas.List.{set_at, take_at, take_more, take-replicate, drop-replicate, flat_map_more, length-replicate, length-take-le}
use Rattle.std.specs.List.{flat_map}
use Rattle.sha256.specs.declared.compression.State.{State}
use Rattle.sha256.specs.Sha256.{bytes32, bytes64, output, padding}

-- `tail` with the last bytes of the message, then with the bit 1 after them, then with the message's length in bits up to `end`
pub padded : (rest t₁ t₂ bits : List ℕ) (n end : ℕ) → t₁ ≡ rest ++ drop (0 + length rest) (replicate 128 0)
    → t₂ ≡ take (end - 8) (slice_set t₁ (length rest) 0x80) ++ (bits ++ drop (end - 8 + length bits) (slice_set t₁ (length rest) 0x80))
    → bits ≡ bytes64 ((n * 8) % 2 ^ 64) → length rest < 64 → n % 64 ≡ length rest → end ≡ 64 * ((length rest + 8) / 64 + 1)
    → take (end - 0) t₂ ≡ rest ++ padding n
unfolding padding
padded rest t₁ t₂ bits n end p₁ p₂ b short last ends =
    let k : ℕ = length rest in
    let z : ℕ = (119 - n % 64) % 64 in
    let zs : List ℕ = replicate (127 - k) 0 in
    let S : List ℕ = set t₁ k 0x80 in
    let D : List ℕ = drop (end - 8 + length bits) S in
    let more : 128 - (0 + k) ≡ suc (127 - k) = omega arith in
    let q₁ : t₁ ≡ rest ++ (0 ∷ zs) =
    p₁ ∙ ap (λ y. rest ++ y) (drop-replicate (0 + k) 128 0) ∙ ap (λ j. rest ++ replicate j 0) more in
    let q₂ : S ≡ rest ++ (0x80 ∷ zs) = ap (λ y. set y k 0x80) q₁ ∙ set_at rest 0 zs 0x80 k refl in
    let to : end - 8 ≡ k + suc z = omega arith in
    let fits : z ≤ 127 - k = omega arith in
    let q₃ : take (end - 8) S ≡ rest ++ (0x80 ∷ replicate z 0) =
    ap (take (end - 8)) q₂
    ∙ ap (λ j. take j (rest ++ (0x80 ∷ zs))) to
    ∙ take-append-add rest (0x80 ∷ zs) (suc z)
    ∙ ap (λ y. rest ++ (0x80 ∷ y)) (take-replicate z (127 - k) 0 fits) in
    let lb : length bits ≡ 8 = ap length b in
    let l₃ : length (take (end - 8) S) ≡ k + suc z =
    ap length q₃ ∙ length-append rest (0x80 ∷ replicate z 0) ∙ ap (λ j. k + suc j) (length-replicate z 0) in
    let l₄ : length (take (end - 8) S ++ bits) ≡ end - 0 = length-append (take (end - 8) S) bits ∙ omega arith in
    let q₄ : take (end - 0) t₂ ≡ take (end - 8) S ++ bits =
    ap (take (end - 0)) (p₂ ∙ sym (append_assoc (take (end - 8) S) bits D)) ∙ take_at (take (end - 8) S ++ bits) D (end - 0) l₄ in
    q₄
    ∙ ap (λ y. y ++ bits) q₃
    ∙ append_assoc rest (0x80 ∷ replicate z 0) bits
    ∙ ap (λ y. rest ++ (0x80 ∷ (replicate z 0 ++ y))) b

-- the bytes of one word more
pub joined_word : (words out out' b : List ℕ) (i : ℕ) → i < length words → 4 * i ≤ length out → take (4 * i) out ≡ flat_map bytes32 (take i words)
    → b ≡ bytes32 (slice_index words i) → out' ≡ take (4 * i) out ++ (b ++ drop (4 * i + length b) out)
    → take (4 * (i + 1)) out' ≡ flat_map bytes32 (take (i + 1) words)
joined_word words out out' b i h l e v p =
    let F : List ℕ = take (4 * i) out in
    let D : List ℕ = drop (4 * i + length b) out in
    let length_F : length F ≡ 4 * i = length-take-le (4 * i) out l in
    let lb : length b ≡ 4 = ap length v in
    let n : length (F ++ b) ≡ 4 * (i + 1) = length-append F b ∙ omega arith in
    ap (take (4 * (i + 1))) (p ∙ sym (append_assoc F b D)) ∙ take_at (F ++ b) D (4 * (i + 1)) n
    ∙ ap (λ z. z ++ b) e
    ∙ ap (λ z. flat_map bytes32 (take i words) ++ z) v
    ∙ flat_map_more bytes32 [] (take i words) (slice_index words i)
    ∙ ap (flat_map bytes32) (sym (take_more words i 0 h))

record Below (l : List ℕ) : Type 0 where
  at : (k : ℕ) → slice_index l k < 256

-- four bytes before others
four_below : (x : ℕ) {l : List ℕ} → Below l → (k : ℕ) → slice_index (bytes32 x ++ l) k < 256
four_below x b zero = omega arith
four_below x b (suc zero) = omega arith
four_below x b (suc (suc zero)) = omega arith
four_below x b (suc (suc (suc zero))) = omega arith
four_below x b (suc (suc (suc (suc k)))) = b.at k

below : (x : ℕ) {l : List ℕ} → Below l → Below (bytes32 x ++ l)
below x b = record { at = four_below x b }

pub output_bytes : (s : State) (k : ℕ) → slice_index (output s) k < 256
unfolding output
output_bytes s =
    let none : Below [] = record { at = λ k. lit< tt } in
    let all : Below (output s) =
    below s.a (below s.b (below s.c (below s.d (below s.e (below s.f (below s.g (below s.h none))))))) in
    all.at
