-- A run of several groups is a run of each of them.
use Rattle.std.proofs.Common.{◌≡◌, ℕ, Bool, true, false, cond, eqb, List, [], ◌∷◌, refl, subst}
use Rattle.std.proofs.lemmas.Bool.{eqb-true}
use Rattle.rules.specs.Group.{Group, SoundParts}
use Rattle.rules.specs.Runs.{Step, now, Run, GroupEvent, alone, Runs}

pub alone_runs : (G : ℕ → Group) (r : List GroupEvent) → Runs G r → (k : ℕ) → Run (G k) (alone k r)
alone_runs G [] run k = tt
alone_runs G (e ∷ r) run k = go (eqb e.group k) refl (alone_runs G r run.2 k)
  where
    go : (t : Bool) → eqb e.group k ≡ t → Run (G k) (alone k r) → Run (G k) (cond t (e.event ∷ alone k r) (alone k r))
    go false f ih = ih
    go true f ih =
        let here : Step (G k).setup (now (G k) (alone k r)) e.event.call e.event.after × SoundParts (G k).setup e.event.after =
        subst (λ (j : ℕ). Step (G j).setup (now (G j) (alone j r)) e.event.call e.event.after × SoundParts (G j).setup e.event.after)
        (eqb-true e.group k f) (run.0, run.1) in
        (here.0, here.1, ih)
