-- Parts of a message by their places, one behind the other.
use Rattle.std.proofs.Common.{◌≡◌, ℕ, ◌+◌, ◌-◌, ◌^◌, ◌<◌, min, List, ◌++◌, length, drop, Some, None, Option, sym, refl, ap, ◌∙◌, arith}
use native.Mathlib.Nat.{min-eq_left}
use Rattle.std.proofs.lemmas.List.{append_assoc, length-append, length-drop, drop_at, take_at, drop-drop}
use Rattle.octets.specs.Numbers.{big_endian}
use Rattle.message.specs.declared.place.Place.{Place}
use Rattle.message.specs.Fields.{value}
use Rattle.message.specs.Placed.{Stands, StandsTo, StandsBefore, ValueStandsTo, EndsAt, From, Passes}

-- behind the first bytes
pub begins : (head rest : List ℕ) → From (head ++ rest) (length head) rest
begins head rest = let l = length-append head rest in record { within = omega arith; there = drop_at head rest (length head) refl }

module _ (bs xs rest : List ℕ) (start : ℕ) (h : From bs start (xs ++ rest)) where
  pub room : start + (length xs + length rest) ≡ length bs
  room =
      let w = h.within in
      let l : length bs - start ≡ length xs + length rest = sym (length-drop start bs) ∙ ap length h.there ∙ length-append xs rest in
      omega arith

  pub ends : (end : ℕ) → length bs < 2 ^ 64 → end ≡ min (start + length xs) (2 ^ 64 - 1) → start + length xs ≡ end
  ends end l e = let r = room in sym (e ∙ min-eq_left (omega arith))

  pub passed : (end : ℕ) → length bs < 2 ^ 64 → end ≡ min (start + length xs) (2 ^ 64 - 1) → From bs end rest
  passed end l e =
      let r = room in
      let m = sym (ends end l e) in
      record { within = omega arith; there = ap (λ k. drop k bs) m ∙ sym (drop-drop (length xs) start bs) ∙ ap (drop (length xs)) h.there ∙ drop_at xs rest (length xs) refl }

  pub stands : (p : Place) → p.offset ≡ start → p.length ≡ length xs → Stands bs p xs
  stands p o l = let r = room in record { within = omega arith; there = rw (o, l, h.there) (take_at xs rest (length xs) refl) }

-- a value behind its size
pub no_value : (start end : ℕ) → end ≡ min (start + 2) (2 ^ 64 - 1) → Passes (λ bs. ValueStandsTo end bs None None) (value.put None) start end
no_value start end e bs rest l h = ((tt, tt), passed bs (value.put None) rest start h end l e)

pub some_value : (v : List ℕ) (start mid end : ℕ) (p : Place) → mid ≡ min (start + 2) (2 ^ 64 - 1) → Passes (λ bs. StandsTo end bs p v) v mid end
    → Passes (λ bs. ValueStandsTo end bs (Some p) (Some v)) (value.put (Some v)) start end
some_value v start mid end p e q bs rest l h =
    let w = big_endian 2 (length v + 1) in
    q bs rest l (passed bs w (v ++ rest) start (rw (append_assoc w v rest) at h) mid l e)

-- a value in front of the last part
pub value_before : (o : Option Place) (end size : ℕ) (bs : List ℕ) → EndsAt end o → end + size ≡ length bs → StandsBefore size bs o
value_before None end size bs e h = tt
value_before (Some p) end size bs e h = omega arith
