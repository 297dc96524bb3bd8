use Rattle.rules.proofs.Theorem.{law}
use Rattle.register.proofs.Working.{worked}
use Rattle.register.proofs.starting.start.Goals as goal

pub returns : goal.returns
returns g c = record { starts = c.make.ensures; law = law; worked = worked }
