use Rattle.version.proofs.SlotLaws.{digest_read}
use Rattle.version.proofs.version.Version.digest.Goals as goal

pub returns : goal.returns
returns c = let p = c.in_ok-place.ensures in (p.0, digest_read c.args.self.now c.args.site _ _ p.0 p.1 p.2 c.map.result c.map.ensures.cases)
