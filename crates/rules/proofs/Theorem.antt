-- The law over all runs.
use Rattle.std.proofs.Common.{List}
use Rattle.rules.specs.Group.{Group, Started}
use Rattle.rules.specs.Law.{GroupLaw, Law}
use Rattle.rules.specs.Runs.{Event, Run, alone}
use Rattle.rules.proofs.Alone.{alone_runs}
use Rattle.rules.proofs.Honest.Theorem.{honest_holds}
use Rattle.rules.proofs.Views.Theorem.{counts_hold, views_hold}

-- of one group
group_law : (G : Group) → Started G → (r : List Event) → Run G r → GroupLaw G r
group_law G started r run = record {
  counts = counts_hold G started r run;
  views = views_hold G started r run;
  honest = honest_holds G started r run;
}

pub law : Law
law G started r runs k = group_law (G k) (started k) (alone k r) (alone_runs G r runs k)
