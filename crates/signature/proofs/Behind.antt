-- A buffer whose bytes from a place on, up to its end, were handed to a signing.
use Rattle.std.proofs.Common.{◌≡◌, ℕ, ◌+◌, ◌-◌, ◌≤◌, min, List, [], ◌++◌, length, take, drop, ◌∙◌, arith}
use borrow.Rule.Slice.PartMut.{put_mid}
use Rattle.std.proofs.lemmas.List.{append-nil, drop_all, drop-drop, take-append-drop, take_rest, length-drop}
use Rattle.octets.specs.Puts.{Puts}

module _ (was p : List ℕ) (start begin : ℕ) (is : begin ≡ min start (length was)) where
  behind : put_mid begin (length was - begin) was p ≡ take begin was ++ p
  behind =
      let none : drop (length was - begin) (drop begin was) ≡ [] = drop_all (length was - begin) (drop begin was) (simp length-drop (omega arith)) in
      rw (none, append-nil p)

  -- how many they are
  pub room : length (take (length was - begin) (drop begin was)) ≡ length was - start
  room = rw (take_rest was begin, length-drop begin was) (omega arith)

  -- nothing was written
  pub kept : p ≡ take (length was - begin) (drop begin was) → put_mid begin (length was - begin) was p ≡ was
  kept e = behind ∙ rw (e, take_rest was begin) (take-append-drop begin was)

  -- a signature was written to the front of them
  pub signed : (len : ℕ) (signature : List ℕ) (end : ℕ) → 1 ≤ len → length signature ≡ len → end ≡ begin + len → len ≤ length (take (length was - begin) (drop begin was))
      → p ≡ signature ++ drop len (take (length was - begin) (drop begin was)) → Puts signature start was (put_mid begin (length was - begin) was p) end
  signed len signature end low long ends fits e =
      let n = room in
      let at : begin ≡ start = omega arith in
      record { ends = omega arith; room = omega arith; after = behind ∙ rw (e, take_rest was begin, drop-drop len begin was, ends, at) }
