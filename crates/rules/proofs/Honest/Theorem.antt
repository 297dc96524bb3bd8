-- With our host no site stops, all committed versions are comparable, and reads are fresh.
use Rattle.std.proofs.Common.{◌≡◌, ℕ, suc, List, [], ◌∷◌, ◌++◌, sym, ap, ◌∙◌, subst, ap₂}
use Rattle.message.specs.Submit.{Submission}
use Rattle.signature.specs.Meaning.{SchemeMeaning}
use Rattle.store.specs.Meaning.{Empty}
use Rattle.rules.specs.Group.{Setup, GroupState, Group, Started, slot}
use Rattle.rules.specs.Finish.{Operation, finished, refused, stopped}
use Rattle.rules.specs.Runs.{Call, begin, finish, abandon, take_submit, take_commit, Step, Event, now, Run}
use Rattle.rules.specs.Shown.{◌∈◌, submissions, completions, exchanges, value_found}
use Rattle.rules.specs.History.{operation, operation_of}
use Rattle.rules.specs.Law.{last_taken, taken, Delivered, Delivers, NoStop, Comparable, ReadsFresh}
use Rattle.rules.proofs.Fitting.{fits_side}
use Rattle.rules.proofs.Keeping.{Grows, step_grows}
use Rattle.rules.proofs.Lists.{Ends, ends_refl, in_middle, cut_here, one_cut, times_here}
use Rattle.rules.proofs.Honest.Finish.{answered_from, no_stop}
use Rattle.rules.proofs.Honest.Good.{Numbered, GoodCompletion, Standing}
use Rattle.rules.proofs.Honest.Start.{start_good}
use Rattle.rules.proofs.Honest.Steps.{Fine, GoodAfter, step_good, taken_before}
use Rattle.rules.proofs.Honest.Taken.{of, times, cut}

-- the number of a submit among those taken
number_at :
    (p : Setup) (all : List Submission) (sch : SchemeMeaning) (a : Submission) (later earlier : List Submission)
    → Numbered p all sch (later ++ (a ∷ earlier)) → a.timestamp ≡ suc (times a.site earlier)
number_at p all sch a [] earlier n = n.0.number
number_at p all sch a (b ∷ later) earlier n = number_at p all sch a later earlier n.1

module _ (G : Group) (started : Started G) (none : Empty G.start.store) where
  -- no finish of the run stopped its site
  abbrev Clean : List Event → Type 0
  Clean [] = Unit {0}
  Clean (e ∷ r) = Fine e.call × Clean r

  run_good :
      (all : List Submission) (sch : SchemeMeaning) (r : List Event) → Run G r → Delivers G r → Clean r → Ends (taken r) all
      → Grows (now G r).scheme sch → GoodAfter G started.set_up all sch r
  run_good all sch [] run d c t k = start_good G all sch started none
  run_good all sch (e ∷ r) run d c t k =
      step_good G started.set_up all sch r e.call e.after run.0 d.0 c.0 t k
      (run_good all sch r run.2 d.1 c.1 (taken_before all r e t)
      (λ i text signature v. k i text signature (step_grows G.setup (now G r) e.after e.call run.0 i text signature v)))

  -- what holds, stated of the run itself
  here : (r : List Event) → Run G r → Delivers G r → Clean r → GoodAfter G started.set_up (taken r) (now G r).scheme r
  here r run d c = run_good (taken r) (now G r).scheme r run d c (ends_refl (taken r)) (λ i text signature v. v)

  next_fine :
      (r : List Event) (c : Call) (x : GroupState) → GoodAfter G started.set_up (taken r) (now G r).scheme r → Step G.setup (now G r) c x
      → Delivered G r c → Fine c
  next_fine r (begin i q was is a) x g s d = tt
  next_fine r (finish i t bs was is (finished c)) x g s d = tt
  next_fine r (finish i t bs was is (refused e)) x g s d = tt
  next_fine r (finish i t bs was is (stopped k)) x g s d =
      let b = s.3.0 in
      let w =
      answered_from G.setup (taken r) (now G r).scheme (submissions r) (completions r) (exchanges r) (now G r) i t bs b.code b.register
      d.exchange g b.awaits d.given d.ticket d.bytes in
      no_stop G.setup (taken r) (now G r).scheme started.set_up (submissions r) ((now G r).sites i) (x.sites i) t bs was k d.exchange b w.1
  next_fine r (abandon i t a) x g s d = tt
  next_fine r (take_submit bs was is a) x g s d = tt
  next_fine r (take_commit bs a) x g s d = tt

  clean : (r : List Event) → Run G r → Delivers G r → Clean r
  clean [] run d = tt
  clean (e ∷ r) run d = let c = clean r run.2 d.1 in (next_fine r e.call e.after (here r run.2 d.1 c) run.0 d.0, c)

  module _ (r : List Event) (run : Run G r) (delivers : Delivers G r) where
    good : GoodAfter G started.set_up (taken r) (now G r).scheme r
    good = here r run delivers (clean r run delivers)

    never_stopped : NoStop G r
    never_stopped i member e =
        subst (Standing G.setup (taken r) (now G r).scheme (submissions r) i ((now G r).sites i) (good.sites i).upto) e (good.sites i).standing

    comparable : Comparable G r
    comparable d d' m m' =
        let x = good.completions d m in
        let y = good.completions d' m' in
        fits_side G.setup.digest of d.commit.version d'.commit.version (x.submission ∷ x.before) (y.submission ∷ y.before) (taken r)
        (x.is.form.0.0.0 ∙ sym y.is.form.0.0.0) x.is.fits y.is.fits x.inside y.inside

    fresh : ReadsFresh G r
    fresh d m e = record {
      submission = w.submission;
      took = subst (λ (z : List Submission). w.submission ∈ z) w.inside.1 (in_middle w.submission w.inside.0 w.before);
      named = ap₂ operation w.site stamp;
      value = any;
    }
      where
        w : GoodCompletion G.setup (taken r) (now G r).scheme d
        w = good.completions d m

        whole : times d.commit.site (w.submission ∷ w.before) ≡ suc (times w.submission.site w.before)
        whole = ap (λ (k : ℕ). times k (w.submission ∷ w.before)) (sym w.site) ∙ times_here of w.submission w.before

        stamp : w.submission.timestamp ≡ (slot d.commit.version d.commit.site).timestamp
        stamp = w.number ∙ sym whole ∙ sym (w.is.fits d.commit.site).0

        any :
            (later earlier : List Submission) (a : Submission) → later ++ (a ∷ earlier) ≡ taken r
            → operation a.site a.timestamp ≡ operation_of d → value_found d.reply.found ≡ last_taken d.register earlier
        any later earlier a f o =
            let is : a.site ≡ d.commit.site = ap (λ (z : Operation). z.site) o in
            let at : a.timestamp ≡ (slot d.commit.version d.commit.site).timestamp = ap (λ (z : Operation). z.timestamp) o in
            let n : a.timestamp ≡ suc (times a.site earlier) =
            number_at G.setup (taken r) (now G r).scheme a later earlier
            (subst (Numbered G.setup (taken r) (now G r).scheme) (sym f) good.host.numbered) in
            let long : times d.commit.site (a ∷ earlier) ≡ suc (times a.site earlier) =
            ap (λ (k : ℕ). times k (a ∷ earlier)) (sym is) ∙ times_here of a earlier in
            let one : cut d.commit.site (w.submission ∷ w.before) ≡ cut d.commit.site (a ∷ earlier) =
            one_cut of d.commit.site (w.submission ∷ w.before) (a ∷ earlier) (taken r) w.inside (later, f)
            (whole ∙ sym w.number ∙ stamp ∙ sym at ∙ n ∙ sym long) in
            let both : w.submission ∷ w.before ≡ a ∷ earlier =
            sym (cut_here of d.commit.site w.submission w.before w.site) ∙ one ∙ cut_here of d.commit.site a earlier is in
            let same : w.before ≡ earlier = cc in
            w.found e ∙ ap (last_taken d.register) same

pub honest_holds :
    (G : Group) → Started G → (r : List Event) → Run G r → Empty G.start.store → Delivers G r → NoStop G r × Comparable G r × ReadsFresh G r
honest_holds G started r run none delivers =
    (never_stopped G started none r run delivers, comparable G started none r run delivers, fresh G started none r run delivers)
