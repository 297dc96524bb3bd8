-- The words of a line, and the digest that they ask for.
use Rattle.std.specs.Prelude.{◌≡◌, ℕ, ◌⊎◌, List, ◌∷◌, ◌++◌, length, codes, slice_index}
use Rattle.hex_text.specs.Hex.{text_of}
use Rattle.hmac.specs.Hmac.{hmac_sha256}
use Rattle.sha256.specs.Sha256.{sha256}
use Rattle.std.specs.Str.Parse.{without_leading_plus, digits_value}
use Rattle.sha3.specs.Sha3.{sha3_256}
use Rattle.vectors.specs.Hashes.{times}

-- HEX
abbrev pub OfWhole : (List ℕ → List ℕ) → List ℕ → List ℕ → Type 0
OfWhole hash word d = (bs : List ℕ) × (word ≡ text_of bs) × (d ≡ hash bs)

-- COUNT and HEX
abbrev pub OfRepeated : (List ℕ → List ℕ) → List ℕ → List ℕ → List ℕ → Type 0
OfRepeated hash count word d = (bs : List ℕ) × (word ≡ text_of bs) × (d ≡ hash (times (digits_value 10 (without_leading_plus count)) bs))

abbrev pub OfOne : (List ℕ → List ℕ) → List ℕ → List ℕ → Type 0
OfOne hash word d = OfWhole hash word d ⊎ ((count : List ℕ) × (text : List ℕ) × (word ≡ count ++ 42 ∷ text) × OfRepeated hash count text d)

-- two words, with a space between
abbrev pub Two : List ℕ → List ℕ → List ℕ → Type 0
Two words front back = words ≡ text_of front ++ 32 ∷ text_of back

abbrev pub OfPair : (List ℕ → List ℕ) → List ℕ → List ℕ → Type 0
OfPair hash words d = (front : List ℕ) × (back : List ℕ) × Two words front back × (d ≡ hash (front ++ back))

abbrev pub OfMidstate : List ℕ → List ℕ → Type 0
OfMidstate words d = (block : List ℕ) × (rest : List ℕ) × Two words block rest × (d ≡ sha256 (block ++ rest))

abbrev pub OfHmac : List ℕ → List ℕ → Type 0
OfHmac words d = (key : List ℕ) × (text : List ℕ) × Two words key text × (d ≡ hmac_sha256 key text)

-- a line: a name, a space and the words
abbrev pub Named : List ℕ → List ℕ → List ℕ → Type 0
Named name words d =
    ((name ≡ codes "sha256") × OfOne sha256 words d)
    ⊎ (((name ≡ codes "sha3-256") × OfOne sha3_256 words d)
    ⊎ (((name ≡ codes "sha256-pair") × OfPair sha256 words d)
    ⊎ (((name ≡ codes "sha3-256-pair") × OfPair sha3_256 words d)
    ⊎ (((name ≡ codes "sha256-midstate") × OfMidstate words d)
    ⊎ ((name ≡ codes "hmac-sha256") × OfHmac words d)))))

abbrev pub Asks : List ℕ → List ℕ → Type 0
Asks line d = (name : List ℕ) × (words : List ℕ) × (line ≡ name ++ 32 ∷ words) × Named name words d

-- the answer to a line: an empty line or a remark comes back as it is
abbrev pub Remark : List ℕ → Type 0
Remark line = (length line ≡ 0) ⊎ (slice_index line 0 ≡ 35)

pub record Replies (line text : List ℕ) : Type 0 where
  pub remark : Remark line → text ≡ line
  pub other : (Remark line → ⊥) → ((d : List ℕ) × Asks line d × (text ≡ text_of d)) ⊎ (text ≡ codes "unknown")
