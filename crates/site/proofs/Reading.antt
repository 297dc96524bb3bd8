-- What a reply keeps that was read from bytes.
use Rattle.std.proofs.Common.{◌≡◌, ℕ, zero, suc, ◌<◌, true, ◌&&◌, leb, List, [], ◌∷◌, map, length, get_or, take, Some, None, Ok, Option, sym, refl, subst, arith, Bor}
use Rattle.std.specs.Option.{option_map}
use Rattle.std.proofs.lemmas.Bool.{and_parts, leb-true}
use Rattle.octets.specs.Field.{Field, GoodAll, Undoes, read}
use Rattle.octets.specs.Numbers.{Bytes}
use Rattle.message.specs.declared.reply.Entry.{Entry}
use Rattle.message.specs.declared.reply.Found.{Found}
use Rattle.message.specs.declared.reply.Reply.{Reply}
use Rattle.message.specs.Places.{ValueBefore}
use Rattle.message.specs.Reply.{entry, held, listed, reply, response, FoundBefore}
use Rattle.rules.specs.Finish.{Placed, PlacedValue}
use Rattle.rules.specs.Group.{Member}
use Rattle.site.specs.Finishing.{place_before, place_of}
use Rattle.site.specs.Checking.{WellRead, size_of}

ranged : (n b : ℕ) → (leb 1 b && leb b n) ≡ true → Member n b
ranged n b h = let p = and_parts (leb 1 b) (leb b n) h in (leb-true 1 b p.0, leb-true b n p.1)

-- one of many fields
good_at : {A X : Type 0} (f : Field A) (of : X → A) (xs : List X) (k : ℕ) (d : X) → k < length xs → GoodAll f (map of xs) → f.Good (of (get_or xs k d))
good_at f of [] k d l h = absurd (omega arith)
good_at f of (x ∷ xs) zero d l h = h.0
good_at f of (x ∷ xs) (suc k) d l h = good_at f of xs k d (omega arith) h.1

module _ (g : ℕ) (m : Reply) (h : WellRead g m) where
  -- an entry of the list is of a site of the group
  pub entry_in : (items : List Entry) → items ≡ take m.entries.count m.entries.items → (k : ℕ) (d : Entry) → k < length items → Member (size_of m) (get_or items k d).site
  entry_in items e k d l =
      let good = good_at (entry (size_of m) g) listed items k d l (rw e h.0.1.1.1.0.0.1.1) in
      ranged (size_of m) (get_or items k d).site good.0.0.1

-- what the reader of replies promises
pub well_read : (n g : ℕ) (bs : List ℕ) (m : Reply) → Bytes bs → Undoes (reply n g) → read (reply n g) bs ≡ Ok (response g n m) → (size_of m ≡ n) × WellRead g m
well_read n g bs m b u e =
    let good = (u.writing bs (response g n m) b e).1 in
    let size = good.0.1.0.0 in
    (size, subst (λ (n : ℕ). (reply n g).Good (response g n m)) (sym size) good)

-- where the value stands that was found
pub placed : (g : ℕ) (bs : List ℕ) (o : Option Found) → FoundBefore g bs o → Placed g bs (option_map held o) (place_of g (length bs) o)
placed g bs None h = refl
placed g bs (Some f) h = value_placed f.value h
  where
    value_placed : (o : Option (Bor (List ℕ))) → ValueBefore g bs (option_map (λ v. v.now) o) → PlacedValue g bs (option_map (λ v. v.now) o) (place_before g (length bs) o)
    value_placed None h = tt
    value_placed (Some v) h = let l = h.0 in (refl, omega arith)
