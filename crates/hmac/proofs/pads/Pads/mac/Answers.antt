use Rattle.std.proofs.Common.{◌++◌, ap, ◌∙◌}
use Rattle.sha256.specs.Sha256.{sha256}
use Rattle.hmac.specs.Hmac.{key_block, xored, opad, hmac_sha256}
use Rattle.hmac.proofs.pads.Pads.mac.Goals as goal

pub returns : goal.returns
unfolding hmac_sha256
returns c key h = c.digest-2.ensures _ h.outside ∙ ap (λ z. sha256 (xored opad (key_block key) ++ z)) (c.digest.ensures _ h.inside)
