use Rattle.rules.proofs.Samples.{samples}
use Rattle.rules.proofs.Theorem.{law}
use Rattle.rules.proofs.law.law_stands.Goals as goal

pub returns : goal.returns
returns c = record { law = law; samples = samples }
