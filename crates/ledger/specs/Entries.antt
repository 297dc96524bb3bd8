-- What a ledger keeps, and what that means.
use Rattle.std.specs.Prelude.{ℕ, ◌+◌, ◌-◌, Bool, false, ◌&&◌, List, map, length, count_by, ◌==◌, nat_eq, nat_lt, slice_index_or}
use Rattle.std.specs.Str.{bytes_eq}
use Rattle.octets.specs.Numbers.{number, big_endian}
use Rattle.signature.specs.Meaning.{SchemeMeaning}

-- an accepted signing; a ledger keeps them oldest first
pub record Signing : Type 0 where
  pub signer : ℕ
  pub signed : List ℕ

abbrev pub signing : ℕ → List ℕ → Signing
signing s t = record { signer = s; signed = t }

-- the most entries of a site
abbrev pub most : ℕ
most = 16

-- how many entries a site has
abbrev pub count : ℕ → List Signing → ℕ
count s es = count_by (λ e. nat_eq e.signer s) es

-- a serial number as a signature: in eight bytes, highest first
unfoldable pub serial : ℕ → List ℕ
serial n = big_endian 8 n

-- the signature of the next entry; the first entry over all sites has the serial number 1
abbrev pub next_serial : List Signing → List ℕ
next_serial es = serial (length es + 1)

-- an entry holds a site and a text
abbrev pub holds : ℕ → List ℕ → Signing → Bool
holds s t e = e.signer == s && bytes_eq e.signed t

-- the entry that a signature names holds a site and a text
abbrev pub names : List Signing → ℕ → List ℕ → List ℕ → Bool
names es s t g = length g == 8 && (nat_lt 0 (number g) && slice_index_or (map (holds s t) es) (number g - 1) false)

abbrev pub meaning : List Signing → SchemeMeaning
meaning es = record { valid = names es; left = λ s. most - count s es }
