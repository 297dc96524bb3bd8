-- RFC 4231: what the definition of HMAC-SHA-256 gives at two of its test cases.
use Rattle.std.specs.Prelude.{◌≡◌, replicate, codes}
use Rattle.octets.specs.Numbers.{big_endian}
use Rattle.hmac.specs.Hmac.{hmac_sha256}

pub record Published : Type 0 where
  -- 4.3, test case 2: a short key
  pub short_key :
      hmac_sha256 (codes "Jefe") (codes "what do ya want for nothing?")
      ≡ big_endian 32 0x5bdcc146bf60754e6a042426089575c75a003f089d2739839dec58b964ec3843
  -- 4.7, test case 6: a key longer than a block
  pub long_key :
      hmac_sha256 (replicate 131 0xaa) (codes "Test Using Larger Than Block-Size Key - Hash Key First")
      ≡ big_endian 32 0x60e431591ee0b67f0d8a26aacbf5b77f8e0bc6213728c5140546040f0ee37f54
