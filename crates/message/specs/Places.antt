-- Parts of lent bytes by their places.
use Rattle.std.specs.Prelude.{◌≡◌, ℕ, ◌+◌, ◌-◌, ◌<◌, ◌≤◌, List, [], length, take, drop, Some, None, Option}
use Rattle.message.specs.declared.place.Place.{Place}

-- so many bytes from a place on
abbrev pub bytes_at : List ℕ → ℕ → ℕ → List ℕ
bytes_at bs at size = take size (drop at bs)

abbrev pub part : List ℕ → Place → List ℕ
part bs p = bytes_at bs p.offset p.length

-- the part at a place, or nothing where it does not lie within the bytes
pub record PartOf (p : Place) (bs r : List ℕ) : Type 0 where
  pub within : p.offset + p.length ≤ length bs → r ≡ part bs p
  pub past : length bs < p.offset + p.length → r ≡ []

-- a value that is present stands so many bytes in front of the end
abbrev pub ValueBefore : ℕ → List ℕ → Option (List ℕ) → Type 0
ValueBefore size bs None = Unit {0}
ValueBefore size bs (Some v) = (length v + size ≤ length bs) × (bytes_at bs (length bs - (length v + size)) (length v) ≡ v)
