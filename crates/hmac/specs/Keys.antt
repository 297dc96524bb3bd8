-- HMAC-SHA-256 as a signature scheme, by the keys of the sites.
use Rattle.std.specs.Prelude.{ℕ, ◌-◌, Bool, ◌&&◌, List, [], length, nat_le, slice_index_or}
use Rattle.std.specs.Str.{bytes_eq}
use Rattle.signature.specs.Limits.{max_sites, max_text}
use Rattle.signature.specs.Meaning.{SchemeMeaning}
use Rattle.hmac.specs.Hmac.{hmac_sha256}

-- the keyed hash of a text for a site; the key of site 1 stands first
abbrev pub mac : List (List ℕ) → ℕ → List ℕ → List ℕ
mac keys site text = hmac_sha256 (slice_index_or keys (site - 1) []) text

-- the site and the text are within the limits
abbrev pub allowed : ℕ → List ℕ → Bool
allowed site text = nat_le 1 site && (nat_le site max_sites && nat_le (length text) max_text)

-- signatures never run out
abbrev pub meaning : List (List ℕ) → SchemeMeaning
meaning keys = record {
  valid = λ site text signature. allowed site text && bytes_eq signature (mac keys site text);
  left = λ site. 4294967295;
}
