use Rattle.std.proofs.Common.{refl}
use Rattle.version.proofs.SlotLaws.{slots_zero}
use Rattle.version.proofs.version.Version.zero.Goals as goal

pub returns : goal.returns
returns c = ((c.if-size-lt1.false, c.if-size-gt-MAX_SITES.false), slots_zero _ refl)
