use Rattle.sha256.proofs.Lanes.{lanes}
use Rattle.sha256.proofs.schedule.rotate_right.Goals as goal

pub returns : goal.returns
returns c = let x = lanes c.args.x c.fits-x.0 in simp x.4
