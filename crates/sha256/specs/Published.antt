-- What holds of the definitions themselves: that the padding fills the last block, and that they give the digests of the
-- examples that NIST publishes with FIPS 180-4.
use Rattle.std.specs.Prelude.{◌≡◌, ℕ, ◌+◌, ◌%◌, length, codes}
use Rattle.sha256.specs.Sha256.{output, padding, sha256}

pub record Published : Type 0 where
  pub fills : (n : ℕ) → (n + length (padding n)) % 64 ≡ 0
  pub one_block :
      sha256 (codes "abc")
      ≡ output (record { a = 0xba7816bf; b = 0x8f01cfea; c = 0x414140de; d = 0x5dae2223; e = 0xb00361a3; f = 0x96177a9c; g = 0xb410ff61; h = 0xf20015ad })
  pub two_blocks :
      sha256 (codes "abcdbcdecdefdefgefghfghighijhijkijkljklmklmnlmnomnopnopq")
      ≡ output (record { a = 0x248d6a61; b = 0xd20638b8; c = 0xe5c02693; d = 0x0c3e6039; e = 0xa33ce459; f = 0x64ff2167; g = 0xf6ecedd4; h = 0x19db06c1 })
