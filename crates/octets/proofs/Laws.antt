-- Each kind of field, and each way to join fields, reads back what it wrote and writes back what it read.
use Rattle.std.proofs.Common.{◌≡◌, ℕ, zero, suc, ◌+◌, ◌-◌, ◌<◌, ◌≤◌, Bool, true, false, cond, leb, List, [], ◌∷◌, ◌++◌, length, get_or, take, drop, Ok, Err, sym, refl, ap, ◌∙◌, subst, arith}
use Rattle.std.proofs.lemmas.List.{append_assoc, append-nil, get_or-append-add, take_at, drop_at, take-append-drop, length-take-le, length-append}
use Rattle.octets.specs.Numbers.{Bytes, number, big_endian}
use Rattle.octets.specs.Field.{Got, good, bad, next, Field, cut, nothing, numeral, span, checked, only, ◌then◌, from_start, joint, shaped, put_all, get_all, GoodAll, times, whole, read, Undoes}
use Rattle.octets.proofs.Cuts.{cut_good}
use Rattle.octets.proofs.Numbers.{length-big_endian, number-big_endian, big_endian-number}

-- of a field in front of any rest
pub record Lawful {A : Type 0} (f : Field A) : Type 0 where
  pub there : (a : A) (rest : List ℕ) → f.Good a → f.get (f.put a ++ rest) ≡ good a rest
  pub back : (bs : List ℕ) (a : A) (rest : List ℕ) → Bytes bs → f.get bs ≡ good a rest → (bs ≡ f.put a ++ rest) × f.Good a

never : {A B : Type 0} {a : A} {rest : List ℕ} {left : ℕ} → bad left ≡ good a rest → B
never e = let z : ◌≡◌ {A = ℕ} 0 1 = cc in absurd (omega arith)

next_good : {A B : Type 0} (m : Got A) (k : A → List ℕ → Got B) {b : B} {rest : List ℕ} → next m k ≡ good b rest
    → (a : A) × (r : List ℕ) × (m ≡ good a r) × (k a r ≡ good b rest)
next_good (good a r) k e = (a, r, refl, e)
next_good (bad left) k e = never e

cond_good : {A : Type 0} (t : Bool) (m : Got A) (left : ℕ) {a : A} {rest : List ℕ} → cond t m (bad left) ≡ good a rest → (t ≡ true) × (m ≡ good a rest)
cond_good true m left e = (refl, e)
cond_good false m left e = never e

-- what a cut that gave a value tells
pub cut_inv : {A : Type 0} (size : ℕ) (v : A) (bs : List ℕ) {a : A} {rest : List ℕ} → cut size v bs ≡ good a rest → (size ≤ length bs) × (v ≡ a) × (drop size bs ≡ rest)
cut_inv size v bs e =
    let i = cond_good (leb size (length bs)) (good v (drop size bs)) (length bs) e in
    let l = i.0 in
    (grind arith, cc i.1, cc i.1)

bytes_rest : (bs xs rest : List ℕ) → bs ≡ xs ++ rest → Bytes bs → Bytes rest
bytes_rest bs xs rest e h k = rw (← get_or-append-add xs rest k 0, ← e) (h (length xs + k))

bytes_front : (bs xs rest : List ℕ) → bs ≡ xs ++ rest → Bytes bs → Bytes xs
bytes_front bs [] rest e h k = omega arith
bytes_front bs (x ∷ xs) rest e h zero = let b = h 0 in rw e at b
bytes_front [] (x ∷ xs) rest e h (suc k) = let z : ◌≡◌ {A = ℕ} 0 1 = cc in absurd (omega arith)
bytes_front (b ∷ bs) (x ∷ xs) rest e h (suc k) = let t : bs ≡ xs ++ rest = cc in bytes_front bs xs rest t (λ i. h (suc i)) k

pub nothing_law : Lawful nothing
nothing_law = record { there = λ a rest h. refl; back = λ bs a rest h e. (cc, tt) }

pub span_law : (size : ℕ) → Lawful (span size)
span_law size = record {
  there = λ a rest h. cut_good size (take size (a ++ rest)) (a ++ rest) (simp length-append (omega arith)) ∙ rw (take_at a rest size h, drop_at a rest size h);
  back = λ bs a rest h e.
      let i = cut_inv size (take size bs) bs e in
      (sym (rw (← i.1, ← i.2) (take-append-drop size bs)), rw (← i.1) (length-take-le size bs i.0));
}

pub numeral_law : (width : ℕ) → Lawful (numeral width)
numeral_law width = record {
  there = λ n rest h.
      let bs = big_endian width n in
      let l = length-big_endian width n in
      cut_good width (number (take width (bs ++ rest))) (bs ++ rest) (simp length-append (omega arith))
      ∙ rw (take_at bs rest width l, drop_at bs rest width l, number-big_endian width n h);
  back = λ bs n rest h e.
      let i = cut_inv width (number (take width bs)) bs e in
      let both = take-append-drop width bs in
      let r = big_endian-number width (take width bs) (length-take-le width bs i.0) (bytes_front bs (take width bs) (drop width bs) (sym both) h) in
      (sym (rw (← i.1, ← i.2, r.0) both), rw (← i.1) r.1);
}

pub only_law : {A : Type 0} (test : A → Bool) {f : Field A} → Lawful f → Lawful (only test f)
only_law {A} test {f} F = record {
  there = λ a rest h. rw (F.there a rest h.0, h.1);
  back = λ bs a rest h e.
      let n = next_good (f.get bs) (checked test (length bs)) e in
      let p = passed n.0 n.1 (length bs) n.3 in
      let x = F.back bs a rest h (n.2 ∙ p.1) in
      (x.0, (x.1, p.0));
}
  where
    passed : (b : A) (r : List ℕ) (left : ℕ) {a : A} {rest : List ℕ} → checked test left b r ≡ good a rest → (test a ≡ true) × (good b r ≡ good a rest)
    passed b r left e = let c = cond_good (test b) (good b r) left e in let t = c.0 in let g = c.1 in (cc, g)

pub then_law : {A B : Type 0} {f : Field A} {g : A → Field B} → Lawful f → ((a : A) → Lawful (g a)) → Lawful (f then g)
then_law {A} {B} {f} {g} F G = record {
  there = λ p rest h. rw (append_assoc (f.put p.0) ((g p.0).put p.1) rest, F.there p.0 ((g p.0).put p.1 ++ rest) h.0, (G p.0).there p.1 rest h.1);
  back = λ bs p rest h e.
      let m = next_good (f.get bs) (λ a r. next ((g a).get r) (λ b s. good (a, b) s)) e in
      let n = next_good ((g m.0).get m.1) (λ b s. good (m.0, b) s) m.3 in
      let x = F.back bs m.0 m.1 h m.2 in
      let y = (G m.0).back m.1 n.0 n.1 (bytes_rest bs (f.put m.0) m.1 x.0 h) n.2 in
      joined bs m.0 n.0 m.1 n.1 p rest n.3 x y;
}
  where
    joined : (bs : List ℕ) (a : A) (b : B) (r s : List ℕ) (p : A × B) (rest : List ℕ) → good (a, b) s ≡ good p rest
        → (bs ≡ f.put a ++ r) × f.Good a → (r ≡ (g a).put b ++ s) × (g a).Good b → (bs ≡ (f then g).put p ++ rest) × (f then g).Good p
    joined bs a b r s p rest e x y =
        let q : (a, b) ≡ p = cc in
        let z : s ≡ rest = cc in
        let P : A × B → Type 0 = λ p. (bs ≡ (f then g).put p ++ rest) × (f then g).Good p in
        subst P q (x.0 ∙ rw (y.0, z, append_assoc (f.put a) ((g a).put b) rest), (x.1, y.1))

pub joint_law : {A : Type 0} {f : Field A} → Lawful f → Lawful (joint f)
joint_law {A} {f} F = record {
  there = λ a rest h. rw (F.there a rest h);
  back = λ bs a rest h e. F.back bs a rest h (inner (f.get bs) (length bs) e);
}
  where
    inner : (m : Got A) (left : ℕ) {a : A} {rest : List ℕ} → from_start left m ≡ good a rest → m ≡ good a rest
    inner (good b r) left e = e
    inner (bad l) left e = never e

pub shaped_law : {A B : Type 0} (to : A → B) (from : B → A) {f : Field A} → Lawful f → ((a : A) → f.Good a → from (to a) ≡ a) → Lawful (shaped to from f)
shaped_law {A} {B} to from {f} F iso = record {
  there = λ b rest h. rw (F.there (from b) rest h.0, h.1);
  back = λ bs b rest h e.
      let m = next_good (f.get bs) (λ a r. good (to a) r) e in
      let x = F.back bs m.0 m.1 h m.2 in
      made bs m.0 m.1 b rest m.3 x (iso m.0 x.1);
}
  where
    made : (bs : List ℕ) (a : A) (r : List ℕ) (b : B) (rest : List ℕ) → good (to a) r ≡ good b rest → (bs ≡ f.put a ++ r) × f.Good a → from (to a) ≡ a
        → (bs ≡ f.put (from b) ++ rest) × (f.Good (from b) × (to (from b) ≡ b))
    made bs a r b rest e x i =
        let q : to a ≡ b = cc in
        let z : r ≡ rest = cc in
        let P : B → Type 0 = λ b. (bs ≡ f.put (from b) ++ rest) × (f.Good (from b) × (to (from b) ≡ b)) in
        subst P q (x.0 ∙ rw (i, z), (rw i x.1, rw i))

pub times_law : {A : Type 0} {f : Field A} → Lawful f → (n : ℕ) → Lawful (times n f)
times_law {A} {f} F n = record { there = λ xs rest h. there_all n xs rest h.0 h.1; back = back_all n }
  where
    there_all : (n : ℕ) (xs : List A) (rest : List ℕ) → length xs ≡ n → GoodAll f xs → get_all f n (put_all f xs ++ rest) ≡ good xs rest
    there_all zero [] rest e h = refl
    there_all zero (x ∷ xs) rest e h = absurd (omega arith)
    there_all (suc n) [] rest e h = absurd (omega arith)
    there_all (suc n) (x ∷ xs) rest e h =
        let l : length xs ≡ n = omega arith in
        rw (append_assoc (f.put x) (put_all f xs) rest, F.there x (put_all f xs ++ rest) h.0, there_all n xs rest l h.1)

    one_more : (n : ℕ) (bs : List ℕ) (a : A) (ys : List A) (r s : List ℕ) (xs : List A) (rest : List ℕ) → good (a ∷ ys) s ≡ good xs rest
        → (bs ≡ f.put a ++ r) × f.Good a → (r ≡ put_all f ys ++ s) × ((length ys ≡ n) × GoodAll f ys)
        → (bs ≡ put_all f xs ++ rest) × ((length xs ≡ suc n) × GoodAll f xs)
    one_more n bs a ys r s xs rest e x y =
        let P : List A → Type 0 = λ xs. (bs ≡ put_all f xs ++ rest) × ((length xs ≡ suc n) × GoodAll f xs) in
        let q : a ∷ ys ≡ xs = cc in
        let z : s ≡ rest = cc in
        subst P q (x.0 ∙ rw (y.0, z, append_assoc (f.put a) (put_all f ys) rest), (ap suc y.1.0, (x.1, y.1.1)))

    back_all : (n : ℕ) (bs : List ℕ) (xs : List A) (rest : List ℕ) → Bytes bs → get_all f n bs ≡ good xs rest → (bs ≡ put_all f xs ++ rest) × ((length xs ≡ n) × GoodAll f xs)
    back_all zero bs xs rest h e =
        let P : List A → Type 0 = λ xs. (bs ≡ put_all f xs ++ rest) × ((length xs ≡ 0) × GoodAll f xs) in
        let q : [] ≡ xs = cc in
        let z : bs ≡ rest = cc in
        subst P q (z, (refl, tt))
    back_all (suc n) bs xs rest h e =
        let m = next_good (f.get bs) (λ a r. next (get_all f n r) (λ ys s. good (a ∷ ys) s)) e in
        let k = next_good (get_all f n m.1) (λ ys s. good (m.0 ∷ ys) s) m.3 in
        let x = F.back bs m.0 m.1 h m.2 in
        let y = back_all n m.1 k.0 k.1 (bytes_rest bs (f.put m.0) m.1 x.0 h) k.2 in
        one_more n bs m.0 k.0 m.1 k.1 xs rest k.3 x y

pub undoes : {A : Type 0} {f : Field A} → Lawful f → Undoes f
undoes {A} {f} F = record {
  reading = λ a h. ap (whole (length (f.put a))) (ap f.get (sym (append-nil (f.put a))) ∙ F.there a [] h);
  writing = λ bs a h e. all bs a (f.get bs) refl h e;
}
  where
    all : (bs : List ℕ) (a : A) (m : Got A) → f.get bs ≡ m → Bytes bs → whole (length bs) m ≡ Ok a → (f.put a ≡ bs) × f.Good a
    all bs a (bad left) g h e = let z : ◌≡◌ {A = ℕ} 0 1 = cc in absurd (omega arith)
    all bs a (good b (r ∷ rest)) g h e = let z : ◌≡◌ {A = ℕ} 0 1 = cc in absurd (omega arith)
    all bs a (good b []) g h e =
        let q : b ≡ a = cc in
        let x = F.back bs a [] h (g ∙ rw q) in
        (sym (x.0 ∙ append-nil (f.put a)), x.1)

-- fields of one kind, each of them good
pub good_each : {A : Type 0} (f : Field A) (d : A) (xs : List A) → ((k : ℕ) → k < length xs → f.Good (get_or xs k d)) → GoodAll f xs
good_each f d [] h = tt
good_each f d (x ∷ xs) h = (h 0 (omega arith), good_each f d xs (λ k l. h (suc k) (omega arith)))

-- from the front of the bytes to the whole of them: nothing left, something left, or a bad field
module _ {A : Type 0} (f : Field A) (bs : List ℕ) where
  pub read_all : (a : A) (rest : List ℕ) → f.get bs ≡ good a rest → length rest ≡ 0 → read f bs ≡ Ok a
  read_all a [] g l = ap (whole (length bs)) g
  read_all a (b ∷ rest) g l = absurd (omega arith)

  pub read_surplus : (a : A) (rest : List ℕ) → f.get bs ≡ good a rest → 0 < length rest → read f bs ≡ Err (length bs - length rest)
  read_surplus a [] g l = absurd (omega arith)
  read_surplus a (b ∷ rest) g l = ap (whole (length bs)) g

  pub read_bad : (left : ℕ) → f.get bs ≡ bad left → read f bs ≡ Err (length bs - left)
  read_bad left g = ap (whole (length bs)) g
