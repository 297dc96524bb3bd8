use Rattle.sha256.specs.Words.{σ0}
use Rattle.sha256.proofs.Lanes.{lanes}
use Rattle.sha256.proofs.schedule.small_sigma0.Goals as goal

pub returns : goal.returns
unfolding σ0
returns c = let x = lanes c.args.x c.fits-x.0 in simp (c.rotate_right.ensures, c.rotate_right-2.ensures, x.4)
