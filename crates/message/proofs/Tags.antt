-- Strings with different tags differ, and each string determines its parts.
use Rattle.std.proofs.Common.{◌≡◌, ℕ, zero, suc, ◌^◌, ◌<◌, Bool, true, false, not, ◌&&◌, eqb, List, [], ◌∷◌, ◌++◌, length, get_or, take, drop, Some, None, Option, unwrap_or, sym, refl, ap, ◌∙◌, arith}
use Rattle.std.proofs.lemmas.List.{take_at, drop_at}
use Rattle.octets.specs.Field.{Field, good}
use Rattle.octets.specs.Numbers.{big_endian, number}
use Rattle.octets.proofs.Laws.{Lawful}
use Rattle.octets.proofs.Numbers.{number-big_endian}
use Rattle.version.specs.declared.version.Version.{Version}
use Rattle.version.specs.Calls.{bytes_of}
use Rattle.version.specs.Version.{slots}
use Rattle.version.proofs.LayoutLaws.{version_law, version_good, version-length}
use Rattle.message.specs.declared.code.Code.{Code}
use Rattle.message.specs.declared.code.Code.TheVariants.{Read, Write}
use Rattle.message.specs.Code.{code_number}
use Rattle.message.specs.Strings.{Tags, tag, WideDigest, StringsTellApart}

-- a test whether the entries of a table are distinct, and each of a given length
abbrev same : List ℕ → List ℕ → Bool
same [] [] = true
same [] (y ∷ ys) = false
same (x ∷ xs) [] = false
same (x ∷ xs) (y ∷ ys) = eqb x y && same xs ys

abbrev absent : List ℕ → List (List ℕ) → Bool
absent t [] = true
absent t (u ∷ us) = not (same t u) && absent t us

abbrev distinct : ℕ → List (List ℕ) → Bool
distinct width [] = true
distinct width (t ∷ ts) = (eqb (length t) width && absent t ts) && distinct width ts

-- what the test tells
both : (s t : Bool) → (s && t) ≡ true → (s ≡ true) × (t ≡ true)
both true t h = (refl, h)
both false t h = let z : ◌≡◌ {A = ℕ} 0 1 = cc in absurd (omega arith)

same_itself : (xs : List ℕ) → same xs xs ≡ true
same_itself [] = refl
same_itself (x ∷ xs) = let e : eqb x x ≡ true = grind arith in rw (e, same_itself xs)

not_same : (t u : List ℕ) → not (same t u) ≡ true → t ≡ u → ⊥
not_same t u h e =
    let s : same t u ≡ true = ap (same t) (sym e) ∙ same_itself t in
    let z : ◌≡◌ {A = ℕ} 0 1 = cc in
    omega arith

not_among : (t : List ℕ) (us : List (List ℕ)) (j : ℕ) → absent t us ≡ true → j < length us → t ≡ get_or us j [] → ⊥
not_among t [] j h l e = omega arith
not_among t (u ∷ us) zero h l e = not_same t u (both _ _ h).0 e
not_among t (u ∷ us) (suc j) h l e = not_among t us j (both _ _ h).1 (omega arith) e

apart : (width : ℕ) (ts : List (List ℕ)) (i j : ℕ) → distinct width ts ≡ true → i < length ts → j < length ts → get_or ts i [] ≡ get_or ts j [] → i ≡ j
apart width [] i j h k l e = absurd (omega arith)
apart width (t ∷ ts) zero zero h k l e = refl
apart width (t ∷ ts) zero (suc j) h k l e = absurd (not_among t ts j (both _ _ (both _ _ h).0).1 (omega arith) e)
apart width (t ∷ ts) (suc i) zero h k l e = absurd (not_among t ts i (both _ _ (both _ _ h).0).1 (omega arith) (sym e))
apart width (t ∷ ts) (suc i) (suc j) h k l e = ap suc (apart width ts i j (both _ _ h).1 (omega arith) (omega arith) e)

wide : (width : ℕ) (ts : List (List ℕ)) (i : ℕ) → distinct width ts ≡ true → i < length ts → length (get_or ts i []) ≡ width
wide width [] i h l = absurd (omega arith)
wide width (t ∷ ts) zero h l = let e = (both (eqb (length t) width) (absent t ts) (both (eqb (length t) width && absent t ts) (distinct width ts) h).0).0 in grind arith
wide width (t ∷ ts) (suc i) h l = wide width ts i (both _ _ h).1 (omega arith)

kinds_apart : (width : ℕ) (ts : List (List ℕ)) (i j : ℕ) (x y : List ℕ) → distinct width ts ≡ true → i < length ts → j < length ts → get_or ts i [] ++ x ≡ get_or ts j [] ++ y → i ≡ j
kinds_apart width ts i j x y h k l e =
    apart width ts i j h k l (sym (take_at (get_or ts i []) x width (wide width ts i h k)) ∙ ap (take width) e ∙ take_at (get_or ts j []) y width (wide width ts j h l))

-- a front of known length and what is behind it
split : (ps qs xs ys : List ℕ) → length ps ≡ length qs → ps ++ xs ≡ qs ++ ys → (ps ≡ qs) × (xs ≡ ys)
split ps qs xs ys l e = (
  sym (take_at ps xs (length qs) l) ∙ ap (take (length qs)) e ∙ take_at qs ys (length qs) refl,
  sym (drop_at ps xs (length qs) l) ∙ ap (drop (length qs)) e ∙ drop_at qs ys (length qs) refl,
)

stamp_same : (t t' : ℕ) → t < 2 ^ 32 → t' < 2 ^ 32 → big_endian 4 t ≡ big_endian 4 t' → t ≡ t'
stamp_same t t' h h' e = sym (number-big_endian 4 t (omega arith)) ∙ ap number e ∙ number-big_endian 4 t' (omega arith)

code_same : (c c' : Code) → code_number c ≡ code_number c' → c ≡ c'
code_same Read Read e = refl
code_same Read Write e = absurd (omega arith)
code_same Write Read e = absurd (omega arith)
code_same Write Write e = refl

digest_same : (d d' : Option (List ℕ)) → WideDigest d → WideDigest d' → unwrap_or d [] ≡ unwrap_or d' [] → d ≡ d'
digest_same None None w w' e = refl
digest_same None (Some x) w w' e = let l = ap length e in absurd (omega arith)
digest_same (Some x) None w w' e = let l = ap length e in absurd (omega arith)
digest_same (Some x) (Some y) w w' e = ap Some e

put_same : {A : Type 0} {f : Field A} (a b : A) → Lawful f → f.Good a → f.Good b → f.put a ≡ f.put b → a ≡ b
put_same {A} {f} a b F g h e =
    let p : good a [] ≡ good b [] = sym (F.there a [] g) ∙ ap (λ (l : List ℕ). f.get (l ++ [])) e ∙ F.there b [] h in
    cc

version_same : (u v : Version) → bytes_of u ≡ bytes_of v → slots u ≡ slots v
version_same u v e =
    let k = version-length u in
    let m = version-length v in
    let l = ap length e in
    let n : length (slots u) ≡ length (slots v) = omega arith in
    put_same (slots u) (slots v) (version_law (length (slots v))) (n, (version_good u).1) (version_good v) e

tests : distinct 4 Tags ≡ true
tests = refl

pub strings_tell_apart : StringsTellApart
strings_tell_apart = record {
  tags = λ i j k l e. apart 4 Tags i j tests k l e;
  kinds = λ i j x y k l e. kinds_apart 4 Tags i j x y tests k l e;
  submits = λ c c' r r' t t' h h' e.
      let n : code_number c ≡ code_number c' = cc in
      let s : r ≡ r' = cc in
      let b : big_endian 4 t ≡ big_endian 4 t' = cc in
      (code_same c c' n, s, stamp_same t t' h h' b);
  datas = λ t t' d d' h h' w w' e.
      let p = (split (tag 1) (tag 1) (big_endian 4 t ++ unwrap_or d []) (big_endian 4 t' ++ unwrap_or d' []) refl e).1 in
      let q = split (big_endian 4 t) (big_endian 4 t') (unwrap_or d []) (unwrap_or d' []) refl p in
      (stamp_same t t' h h' q.0, digest_same d d' w w' q.1);
  commits = λ u v e. version_same u v (split (tag 2) (tag 2) (bytes_of u) (bytes_of v) refl e).1;
  proofs = λ d d' e. (split (tag 3) (tag 3) d d' refl e).1;
}
