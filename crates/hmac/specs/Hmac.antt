-- RFC 2104, section 2, with SHA-256 as H: its blocks have B = 64 bytes.
use Rattle.std.specs.Prelude.{ℕ, ◌-◌, cond, List, ◌++◌, map, length, replicate, bit_xor, nat_lt}
use Rattle.sha256.specs.Sha256.{sha256}

-- zeros appended up to B bytes
abbrev pub zero_filled : List ℕ → List ℕ
zero_filled k = k ++ replicate (64 - length k) 0

-- a key that is longer than B bytes is hashed first
abbrev pub key_block : List ℕ → List ℕ
key_block key = cond (nat_lt 64 (length key)) (zero_filled (sha256 key)) (zero_filled key)

-- each byte of a block XORed with one byte
unfoldable pub xored : ℕ → List ℕ → List ℕ
xored b bs = map (λ x. bit_xor x b) bs

-- the two bytes that are repeated B times
abbrev pub ipad : ℕ
ipad = 0x36

abbrev pub opad : ℕ
opad = 0x5c

-- H(K XOR opad, H(K XOR ipad, text))
unfoldable pub hmac_sha256 : List ℕ → List ℕ → List ℕ
hmac_sha256 key text = sha256 (xored opad (key_block key) ++ sha256 (xored ipad (key_block key) ++ text))
