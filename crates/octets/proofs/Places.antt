-- Bytes put into a buffer, and more put behind them.
use Rattle.std.proofs.Common.{◌≡◌, ℕ, ◌*◌, List, [], ◌∷◌, ◌++◌, length, take, drop, sym, ap, ◌∙◌, mul-suc, arith}
use Rattle.std.proofs.lemmas.List.{append_assoc, append-nil, length-append, length-take-le, length-drop, take_at, drop_at, drop-drop}
use Rattle.octets.specs.Field.{Field, put_all, GoodAll}
use Rattle.octets.specs.Puts.{Puts}

-- bytes, and then more
pub ◌⨾◌ : {bs cs : List ℕ} {start : ℕ} {was mid is : List ℕ} {m n : ℕ} → Puts bs start was mid m → Puts cs m mid is n → Puts (bs ++ cs) start was is n
◌⨾◌ {bs} {cs} {start} {was} {mid} {is} {m} {n} p q =
    let e = p.ends in
    let f = q.ends in
    let w = p.room in
    let v = q.room in
    let l : length (take start was ++ bs) ≡ m = length-append (take start was) bs ∙ rw (length-take-le start was (omega arith)) (sym e) in
    let a : mid ≡ (take start was ++ bs) ++ drop m was = p.after ∙ sym (append_assoc (take start was) bs (drop m was)) in
    let k : length mid ≡ length was = ap length a ∙ simp (length-append, length-drop) (omega (arith, l, simp length-append at l)) in
    let t : take m mid ≡ take start was ++ bs = rw a (take_at (take start was ++ bs) (drop m was) m l) in
    let d : drop m mid ≡ drop m was = rw a (drop_at (take start was ++ bs) (drop m was) m l) in
    let d' : drop n mid ≡ drop n was = rw f (sym (drop-drop (length cs) m mid) ∙ ap (drop (length cs)) d ∙ drop-drop (length cs) m was) in
    record {
      ends = simp length-append (omega arith);
      room = omega arith;
      after = q.after ∙ rw (t, d', append_assoc (take start was) bs (cs ++ drop n was), append_assoc bs cs (drop n was));
    }

infixr 20 ◌⨾◌
-- what a write leaves is as long as it was
pub puts_length : {bs : List ℕ} {start : ℕ} {was is : List ℕ} {end : ℕ} → Puts bs start was is end → length is ≡ length was
puts_length {bs} {start} {was} {is} {end} p =
    let e = p.ends in
    let r = p.room in
    ap length p.after ∙ simp (length-append, length-drop, length-take-le start was (omega arith)) (omega arith)

-- a loop that writes fields of one kind
pub put_all-push : {A : Type 0} (f : Field A) (xs : List A) (a : A) → put_all f (xs ++ a ∷ []) ≡ put_all f xs ++ f.put a
put_all-push f [] a = append-nil (f.put a)
put_all-push f (x ∷ xs) a = ap (λ (r : List ℕ). f.put x ++ r) (put_all-push f xs a) ∙ sym (append_assoc (f.put x) (put_all f xs) (f.put a))

pub puts_more : {A : Type 0} (f : Field A) (xs ys : List A) (a : A) {start : ℕ} {was mid is : List ℕ} {m n : ℕ} → ys ≡ xs ++ a ∷ []
    → Puts (put_all f xs) start was mid m → Puts (f.put a) m mid is n → Puts (put_all f ys) start was is n
puts_more f xs ys a e p q = rw (e, put_all-push f xs a) (p ⨾ q)

pub length_all : {A : Type 0} (f : Field A) (k : ℕ) → ((a : A) → f.Good a → length (f.put a) ≡ k) → (xs : List A) → GoodAll f xs → length (put_all f xs) ≡ k * length xs
length_all f k each [] g = omega arith
length_all f k each (x ∷ xs) g = length-append (f.put x) (put_all f xs) ∙ rw (each x g.0, length_all f k each xs g.1) (omega (arith, mul-suc k (length xs)))
