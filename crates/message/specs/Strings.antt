-- The strings that sites sign. Each begins with its tag, from a table of four.
use Rattle.std.specs.Prelude.{◌≡◌, ℕ, ◌^◌, ◌<◌, List, [], ◌∷◌, ◌++◌, length, Some, None, Option, slice_index_or}
use Rattle.std.specs.Option.{unwrap_or}
use Rattle.octets.specs.Numbers.{big_endian}
use Rattle.version.specs.declared.version.Version.{Version}
use Rattle.version.specs.Layout.{version_field}
use Rattle.version.specs.Order.{Slot}
use Rattle.version.specs.Version.{slots}
use Rattle.message.specs.declared.code.Code.{Code}
use Rattle.message.specs.Code.{code_number}

-- SUBM, DATA, COMM, PROF
abbrev pub Tags : List (List ℕ)
Tags = (83 ∷ 85 ∷ 66 ∷ 77 ∷ []) ∷ (68 ∷ 65 ∷ 84 ∷ 65 ∷ []) ∷ (67 ∷ 79 ∷ 77 ∷ 77 ∷ []) ∷ (80 ∷ 82 ∷ 79 ∷ 70 ∷ []) ∷ []

abbrev pub tag : ℕ → List ℕ
tag k = slice_index_or Tags k []

-- an operation, its register and its timestamp
abbrev pub submit_string : Code → ℕ → ℕ → List ℕ
submit_string c r t = tag 0 ++ (code_number c ∷ r ∷ big_endian 4 t)

-- a timestamp, and the digest of the value last written, no bytes where there is none
abbrev pub data_string : ℕ → Option (List ℕ) → List ℕ
data_string t d = tag 1 ++ (big_endian 4 t ++ unwrap_or d [])

-- a version of a group
abbrev pub commit_string : List Slot → List ℕ
commit_string v = tag 2 ++ (version_field (length v)).put v

-- the signer's own digest
abbrev pub proof_string : List ℕ → List ℕ
proof_string d = tag 3 ++ d

-- a digest, where there is one, has 32 bytes
abbrev pub WideDigest : Option (List ℕ) → Type 0
WideDigest None = Unit {0}
WideDigest (Some d) = length d ≡ 32

-- No two strings of different kinds are equal, and two of one kind only if they were made of the same.
pub record StringsTellApart : Type 0 where
  pub tags : (i j : ℕ) → i < 4 → j < 4 → tag i ≡ tag j → i ≡ j
  pub kinds : (i j : ℕ) (x y : List ℕ) → i < 4 → j < 4 → tag i ++ x ≡ tag j ++ y → i ≡ j
  pub submits : (c c' : Code) (r r' t t' : ℕ) → t < 2 ^ 32 → t' < 2 ^ 32 → submit_string c r t ≡ submit_string c' r' t' → (c ≡ c') × (r ≡ r') × (t ≡ t')
  pub datas : (t t' : ℕ) (d d' : Option (List ℕ)) → t < 2 ^ 32 → t' < 2 ^ 32 → WideDigest d → WideDigest d' → data_string t d ≡ data_string t' d' → (t ≡ t') × (d ≡ d')
  pub commits : (u v : Version) → commit_string (slots u) ≡ commit_string (slots v) → slots u ≡ slots v
  pub proofs : (d d' : List ℕ) → proof_string d ≡ proof_string d' → d ≡ d'
