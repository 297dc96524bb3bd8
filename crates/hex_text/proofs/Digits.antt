-- Digits one by one, and the text of bytes two digits at a time.
use Rattle.std.proofs.Common.{◌≡◌, ℕ, zero, suc, ◌+◌, ◌*◌, ◌/◌, ◌%◌, ◌<◌, ◌≤◌, true, false, ltb, ◌⊎◌, List, [], ◌∷◌, ◌++◌, length, get_or, slice_set, take, drop, Some, None, Option, sym, refl, ap, ◌∙◌, ⊎_elim, arith}
use Rattle.std.proofs.lemmas.List.{append_assoc, take_more, take_more_set, take_all, get_or-take, get_or-drop, length-drop, length-set}
use Rattle.std.proofs.lemmas.Slice.Eq.{bytes_eq-Decides}
use Rattle.std.specs.Simd.{first_chunks}
use Rattle.std.specs.Str.{bytes_eq, IsAscii}
use Rattle.std.proofs.lemmas.Bool.{cases_lt}
use Rattle.octets.specs.Numbers.{Bytes}
use Rattle.hex_text.specs.Hex.{digit, digits, text_of, Value, Spelled}

pub digit_low : (n : ℕ) → n < 10 → digit n ≡ 48 + n
unfolding digit
digit_low n h = let e : ltb n 10 ≡ true = grind arith in rw e

pub digit_high : (n : ℕ) → 10 ≤ n → digit n ≡ 87 + n
unfolding digit
digit_high n h = let e : ltb n 10 ≡ false = grind arith in rw e

-- what is no digit
pub no_value : (c : ℕ) → ((48 ≤ c) × (c ≤ 57) → ⊥) → ((97 ≤ c) × (c ≤ 102) → ⊥) → Value c None
no_value c low high n h e =
    ⊎_elim
    (λ (l : n < 10). let d = digit_low n l in low (omega arith, omega arith))
    (λ (g : 10 ≤ n). let d = digit_high n g in high (omega arith, omega arith))
    (cases_lt n 10)

pub digits_push : (bs : List ℕ) (b : ℕ) → digits (bs ++ b ∷ []) ≡ digits bs ++ digit (b / 16) ∷ digit (b % 16) ∷ []
digits_push [] b = refl
digits_push (x ∷ bs) b = ap (λ (l : List ℕ). digit (x / 16) ∷ digit (x % 16) ∷ l) (digits_push bs b)

digits-length : (bs : List ℕ) → length (digits bs) ≡ 2 * length bs
digits-length [] = refl
digits-length (b ∷ bs) = let n = digits-length bs in omega arith

-- the two digits of the byte at k
digits_at : (bs : List ℕ) (k : ℕ) → k < length bs → (get_or (digits bs) (2 * k) 0 ≡ digit (get_or bs k 0 / 16)) × (get_or (digits bs) (2 * k + 1) 0 ≡ digit (get_or bs k 0 % 16))
digits_at [] k h = absurd (omega arith)
digits_at (b ∷ bs) zero h = (refl, refl)
digits_at (b ∷ bs) (suc k) h =
    let n = digits_at bs k (omega arith) in
    let e : 2 * suc k ≡ suc (suc (2 * k)) = omega arith in
    let f : 2 * suc k + 1 ≡ suc (suc (2 * k + 1)) = omega arith in
    (rw e n.0, rw f n.1)

-- one byte more was read
pub digits_more : (text items : List ℕ) (k b : ℕ) → 2 * k + 1 < length text → digits items ≡ take (2 * k) text → Spelled (get_or text (2 * k) 0) (get_or text (2 * k + 1) 0) (Some b) → digits (items ++ b ∷ []) ≡ take (2 * (k + 1)) text
digits_more text items k b l e s =
    let n : 2 * (k + 1) ≡ 2 * k + 1 + 1 = omega arith in
    digits_push items b
    ∙ rw (e, s.1, s.2, n, take_more text (2 * k + 1) 0 l, take_more text (2 * k) 0 (omega arith))
    (sym (append_assoc (take (2 * k) text) (get_or text (2 * k) 0 ∷ []) (get_or text (2 * k + 1) 0 ∷ [])))

-- a text of more than one character that spells bytes has two digits for each
spelled : (bs text : List ℕ) → text_of bs ≡ text → 1 < length text → digits bs ≡ text
spelled [] text e l = let n = ap length e in absurd (omega arith)
spelled (b ∷ bs) text e l = e

-- at a character that is no digit a text spells nothing
module _ (text : List ℕ) (k : ℕ) (l : 2 * k + 1 < length text) (bs : List ℕ) (h : Bytes bs) (e : text_of bs ≡ text) where
  in_digits : digits bs ≡ text
  in_digits = spelled bs text e (omega arith)

  within : k < length bs
  within = let n = digits-length bs in let m = ap length in_digits in omega arith

  pub no_byte : Spelled (get_or text (2 * k) 0) (get_or text (2 * k + 1) 0) None → ⊥
  no_byte v = let d = digits_at bs k within in v (get_or bs k 0) (h k) (sym d.0 ∙ ap (λ t. get_or t (2 * k) 0) in_digits) (sym d.1 ∙ ap (λ t. get_or t (2 * k + 1) 0) in_digits)

-- a text of no pair, or of one character more than pairs, spells nothing, unless it is the full stop
pub no_pairs : (text : List ℕ) → (text ≡ 46 ∷ [] → ⊥) → (length text / 2 ≡ 0) ⊎ (length text % 2 ≡ 0 → ⊥) → (bs : List ℕ) → text_of bs ≡ text → ⊥
no_pairs text stop odd [] e = stop (sym e)
no_pairs text stop odd (b ∷ bs) e =
    let n = ap length e in
    let m = digits-length bs in
    ⊎_elim (λ (z : length text / 2 ≡ 0). omega arith) (λ (o : length text % 2 ≡ 0 → ⊥). o (omega arith)) odd

pub no_stop : (text stop : List ℕ) → stop ≡ 46 ∷ [] → false ≡ bytes_eq text stop → text ≡ 46 ∷ [] → ⊥
no_stop text stop s e t = let y = (bytes_eq-Decides text stop).1 (t ∙ sym s) in cc

-- the pairs of a text
pairs_at : (k i : ℕ) (xs : List ℕ) → i < k → 2 * k ≤ length xs
    → (get_or (get_or (first_chunks 2 k xs) i []) 0 0 ≡ get_or xs (2 * i) 0) × (get_or (get_or (first_chunks 2 k xs) i []) 1 0 ≡ get_or xs (2 * i + 1) 0)
pairs_at zero i xs h l = absurd (omega arith)
pairs_at (suc k) zero xs h l = (get_or-take 2 xs 0 0 (omega arith), get_or-take 2 xs 1 0 (omega arith))
pairs_at (suc k) (suc i) xs h l =
    let n = length-drop 2 xs in
    let p = pairs_at k i (drop 2 xs) (omega arith) (omega arith) in
    let e : 2 * suc i ≡ 2 + 2 * i = omega arith in
    let f : 2 * suc i + 1 ≡ 2 + (2 * i + 1) = omega arith in
    (p.0 ∙ get_or-drop 2 xs (2 * i) 0 ∙ ap (λ j. get_or xs j 0) (sym e), p.1 ∙ get_or-drop 2 xs (2 * i + 1) 0 ∙ ap (λ j. get_or xs j 0) (sym f))

pub pair_spelled : (text : List ℕ) (pairs : List (List ℕ)) (i : ℕ) (r : Option ℕ) → pairs ≡ first_chunks 2 (length text / 2) text → i < length text / 2
    → Spelled (get_or (get_or pairs i []) 0 0) (get_or (get_or pairs i []) 1 0) r → Spelled (get_or text (2 * i) 0) (get_or text (2 * i + 1) 0) r
pair_spelled text pairs i r e h s = let p = pairs_at (length text / 2) i text h (omega arith) in rw (e, p.0, p.1) at s

-- all bytes were read
pub digits_all : (text items : List ℕ) (k : ℕ) → length text ≤ 2 * k → 1 < length text → digits items ≡ take (2 * k) text → text_of items ≡ text
digits_all text [] k l m e = let n = ap length (e ∙ take_all (2 * k) text l) in absurd (omega arith)
digits_all text (b ∷ bs) k l m e = e ∙ take_all (2 * k) text l

-- one byte more was written
pub text_more : (bs text text' : List ℕ) (k : ℕ) → k < length bs → text ≡ digits (take k bs) → text' ≡ text ++ digit (get_or bs k 0 / 16) ∷ digit (get_or bs k 0 % 16) ∷ [] → text' ≡ digits (take (k + 1) bs)
text_more bs text text' k l e p = p ∙ rw (e, take_more bs k 0 l) (sym (digits_push (take k bs) (get_or bs k 0)))

-- the same in an array, to whose front the digits are written
pub digits_put : (bs room : List ℕ) (k : ℕ) → k < length bs → 2 * k + 1 < length room → take (2 * k) room ≡ digits (take k bs)
    → take (2 * (k + 1)) (slice_set (slice_set room (2 * k) (digit (get_or bs k 0 / 16))) (2 * k + 1) (digit (get_or bs k 0 % 16))) ≡ digits (take (k + 1) bs)
digits_put bs room k l fits e =
    let x : ℕ = digit (get_or bs k 0 / 16) in
    let y : ℕ = digit (get_or bs k 0 % 16) in
    let two : 2 * (k + 1) ≡ 2 * k + 1 + 1 = omega arith in
    let size = length-set room (2 * k) x in
    let low = take_more_set (slice_set room (2 * k) x) (2 * k + 1) y (omega (arith, size)) in
    let high = take_more_set room (2 * k) x (omega arith) in
    text_more bs (take (2 * k) room) _ k l e (rw (two, low, high) (append_assoc (take (2 * k) room) (x ∷ []) (y ∷ [])))

-- the digits of two parts stand behind each other
pub digits_append : (a b : List ℕ) → digits (a ++ b) ≡ digits a ++ digits b
digits_append [] b = refl
digits_append (x ∷ a) b = ap (λ (l : List ℕ). digit (x / 16) ∷ digit (x % 16) ∷ l) (digits_append a b)

-- digits are ASCII
digit_ascii : (n : ℕ) → n < 16 → digit n < 128
digit_ascii n h =
    ⊎_elim
    (λ (l : n < 10). let d = digit_low n l in omega arith)
    (λ (g : 10 ≤ n). let d = digit_high n g in omega arith)
    (cases_lt n 10)

pub digits_ascii : (bs : List ℕ) → Bytes bs → IsAscii (digits bs)
digits_ascii [] h i = omega arith
digits_ascii (b ∷ bs) h zero = let s = h 0 in digit_ascii (b / 16) (omega arith)
digits_ascii (b ∷ bs) h (suc zero) = digit_ascii (b % 16) (omega arith)
digits_ascii (b ∷ bs) h (suc (suc i)) = digits_ascii bs (λ k. h (suc k)) i
