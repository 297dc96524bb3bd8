-- Bytes in parts and put together, and a vector that a part was copied over.
use Rattle.std.specs.Prelude.{◌≡◌, ℕ, zero, suc, ◌+◌, ◌≤◌, List, [], ◌∷◌, ◌++◌, length, take, drop, replicate, vec_items, vec_len, Vec, slice_index_or, refl}
use Rattle.std.proofs.Common.{arith}
use borrow.Rule.Slice.PartMut.{put_mid}
use Rattle.std.specs.Vec.{with_items}
use Rattle.std.proofs.lemmas.List.{length-append, length-drop, length-take-le, get_or-drop, with_items_is}
use Rattle.octets.specs.Numbers.{Bytes}

-- zeros
pub get_or_zeros : (n k : ℕ) → slice_index_or {A = ℕ} (replicate n 0) k 0 ≡ 0
get_or_zeros zero k = refl
get_or_zeros (suc n) zero = refl
get_or_zeros (suc n) (suc k) = get_or_zeros n k

pub zeros_bytes : (n : ℕ) (xs : List ℕ) → xs ≡ replicate n 0 → Bytes xs
zeros_bytes n xs e k = rw (e, get_or_zeros n k) (omega arith)

-- parts of bytes, and bytes put together
pub bytes_drop : (n : ℕ) (xs : List ℕ) → Bytes xs → Bytes (drop n xs)
bytes_drop n xs h k = rw (get_or-drop n xs k 0) (h (n + k))

pub bytes_take : (n : ℕ) (xs : List ℕ) → Bytes xs → Bytes (take n xs)
bytes_take zero xs h k = omega arith
bytes_take (suc n) [] h k = omega arith
bytes_take (suc n) (x ∷ xs) h zero = h 0
bytes_take (suc n) (x ∷ xs) h (suc k) = bytes_take n xs (λ j. h (suc j)) k

bytes-append : (xs ys : List ℕ) → Bytes xs → Bytes ys → Bytes (xs ++ ys)
bytes-append [] ys h g k = g k
bytes-append (x ∷ xs) ys h g zero = h 0
bytes-append (x ∷ xs) ys h g (suc k) = bytes-append xs ys (λ j. h (suc j)) g k

-- what a Vec holds after bs was copied over a part of it
pub copied_over : {Z : Type 0} (v : Vec ℕ Z) (all part bs : List ℕ) (a k : ℕ) → all ≡ vec_items v → part ≡ bs → k ≡ length bs → a + length bs ≤ vec_len v
    → vec_items (with_items v (put_mid a k all part)) ≡ put_mid a (length bs) (vec_items v) bs
copied_over v all part bs a k e f g room =
    let n = v.ok.0 in
    let t : length (take a (vec_items v)) ≡ a = length-take-le a (vec_items v) (omega arith) in
    let l : length (put_mid a (length bs) (vec_items v) bs) ≡ vec_len v = simp (length-append, length-drop, t) (omega arith) in
    rw (e, f, g) (with_items_is v (put_mid a (length bs) (vec_items v) bs) l)
