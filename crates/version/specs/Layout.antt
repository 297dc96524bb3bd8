-- A version in bytes: for each site its timestamp in four bytes and its digest in 32, all of them zero at timestamp 0.
use Rattle.std.specs.Prelude.{ℕ, Bool, true, cond, ◌&&◌, List, [], ◌∷◌, Some, None, Option, ◌==◌}
use Rattle.octets.specs.Field.{Field, numeral, span, only, shaped, ◌then◌, times}
use Rattle.version.specs.Shape.{digest_bytes}
use Rattle.version.specs.Order.{Slot, slot_with}

abbrev pub all_zero : List ℕ → Bool
all_zero [] = true
all_zero (b ∷ bs) = b == 0 && all_zero bs

-- the digest at a timestamp
abbrev pub digest_field : ℕ → Field (Option (List ℕ))
digest_field t = shaped (λ bs. cond (t == 0) None (Some bs)) digest_bytes (only (λ bs. cond (t == 0) (all_zero bs) true) (span 32))

abbrev pub slot_field : Field Slot
slot_field = shaped (λ p. slot_with p.0 p.1) (λ s. (s.timestamp, s.digest)) (numeral 4 then digest_field)

-- of a group of n sites
abbrev pub version_field : ℕ → Field (List Slot)
version_field n = times n slot_field
