-- The form of what slots say.
use Rattle.std.proofs.Common.{◌≡◌, ℕ, ◌+◌, List, length, Some, None, Ok, Err, Option, Result, refl, arith}
use Rattle.std.specs.Result.{result_unwrap_or}
use Rattle.std.proofs.lemmas.List.{length-replicate}
use Rattle.std.proofs.lemmas.Bool.{leb-true}
use Rattle.octets.specs.Field.{Field, Undoes, read}
use Rattle.octets.specs.Numbers.{Bytes}
use Rattle.message.specs.Fields.{value}
use Rattle.message.specs.Slots.{version_slot}
use Rattle.message.specs.Writes.{TooLong}
use Rattle.version.specs.Order.{unseen}
use Rattle.host.specs.Says.{FormedVersion, version_in}

pub short_value : (v : Option (List ℕ)) → value.Good v → TooLong v → ⊥
short_value None h t = t
short_value (Some v) h t = let k = leb-true (length v + 1) 513 h.0.0.1 in omega arith

-- what is read, or else what counts where the bytes do not read
formed : {A : Type 0} (f : Field A) (Formed : A → Type 0) (bs : List ℕ) (d : A) → Bytes bs → Undoes f → ((a : A) → f.Good a → Formed a) → Formed d → Formed (result_unwrap_or (read f bs) d)
formed {A} f Formed bs d b u good blank = go (read f bs) refl
  where
    go : (r : Result A ℕ) → read f bs ≡ r → Formed (result_unwrap_or r d)
    go (Ok a) e = good a (u.writing bs a b e).1
    go (Err offset) e = blank

pub version_formed : (n g : ℕ) (bs : List ℕ) → Bytes bs → Undoes (version_slot n g) → FormedVersion n g (version_in n g bs)
version_formed n g bs b u =
    formed (version_slot n g) (FormedVersion n g) bs _ b u (λ w h. record { sized = h.0.0.0; signed = h.0.1.0; proved = h.0.1.1 })
    (record { sized = length-replicate n unseen; signed = length-replicate g 0; proved = length-replicate g 0 })
