-- What holds of each site at every moment of a run.
use Rattle.std.proofs.Common.{◌≡◌, ℕ, suc, ◌+◌, ◌<◌, ◌≤◌, cond, eqb, List, [], ◌∷◌, ◌++◌, sym, refl, ap, ◌∙◌, subst, inl, inr, arith}
use Rattle.std.proofs.lemmas.Bool.{eq-eqb, ne_eqb, cond-true, cond-false}
use Rattle.message.specs.Submit.{Submission}
use Rattle.version.specs.Order.{Slot}
use Rattle.rules.specs.declared.phase.Phase.{Phase}
use Rattle.rules.specs.declared.phase.Phase.TheVariants.{Idle, Waiting, Stopped, Retired}
use Rattle.rules.specs.Group.{Setup, SiteState, GroupState, Group, Started, slot, zeros, max_timestamp}
use Rattle.rules.specs.Begin.{Ended}
use Rattle.rules.specs.Running.{from_reply}
use Rattle.rules.specs.Finish.{Completion}
use Rattle.rules.specs.Runs.{Event, now}
use Rattle.rules.specs.Shown.{◌∈◌, Deed, began, completed, took, other, deed, submission_in, submissions, completion_in, completions}
use Rattle.rules.proofs.Slots.{slot_zeros}
use Rattle.rules.proofs.Reading.{GoodVersion}
use Rattle.rules.proofs.Views.Deeds.{Rests, rests_version, Did, Completes, at_sites, Doings}
use Rattle.rules.proofs.Views.Results.{own_slot, foreign_from, good_result}

-- how many operations of the site i were begun
abbrev pub begun_by : ℕ → List Submission → ℕ
begun_by i [] = 0
begun_by i (a ∷ subs) = cond (eqb a.site i) (suc (begun_by i subs)) (begun_by i subs)

-- an idle site has finished all that it began, and a waiting one all but the last
abbrev pub Pace : Phase → ℕ → ℕ → Type 0
Pace Idle own begun = begun ≡ own
Pace (Waiting c r) own begun = (begun ≡ own + 1) × (begun ≤ max_timestamp)
Pace Stopped own begun = Unit {0}
Pace Retired own begun = Unit {0}

abbrev pub Paced : ℕ → SiteState → ℕ → Type 0
Paced i s begun = Pace s.phase (slot s.version i).timestamp begun

pub paced_in : (i : ℕ) (s : SiteState) (begun : ℕ) (phase : Phase) → s.phase ≡ phase → Paced i s begun → Pace phase (slot s.version i).timestamp begun
paced_in i s begun phase e h = subst (λ (f : Phase). Pace f (slot s.version i).timestamp begun) e h

ended_paced : (phase : Phase) (own begun : ℕ) → Ended phase → Pace phase own begun
ended_paced Idle own begun h = absurd h
ended_paced (Waiting c r) own begun h = absurd h
ended_paced Stopped own begun h = tt
ended_paced Retired own begun h = tt

-- the version of the last operation that the site i finished, or zero
abbrev pub current : ℕ → List Completion → ℕ → List Slot
current n [] i = zeros n
current n (d ∷ ds) i = cond (eqb d.commit.site i) d.commit.version (current n ds i)

module _ (p : Setup) (x x' : GroupState) where
  own_after : (i : ℕ) (d : Completion) → Completes p x x' i d → (slot (x'.sites i).version i).timestamp ≡ (slot (x.sites i).version i).timestamp + 1
  own_after i d c =
      let foreign = foreign_from p.digest x.scheme i d.reply (from_reply d.reply) d.reply.entries c.passes.list in
      let e = ap (λ (s : Slot). s.timestamp) (own_slot p.digest p.size i d.reply c.member c.fits.version.0 foreign) in
      ap (λ (s : SiteState). (slot s.version i).timestamp) c.after ∙ e ∙ ap (λ (t : ℕ). t + 1) (sym c.passes.follows.same)

  rest_paced : (j begun : ℕ) → Rests (x.sites j) (x'.sites j) → Paced j (x.sites j) begun → Paced j (x'.sites j) begun
  rest_paced j begun (inl e) h = subst (λ (s : SiteState). Paced j s begun) (sym e) h
  rest_paced j begun (inr e) h = ended_paced (x'.sites j).phase (slot (x'.sites j).version j).timestamp begun e.ended

  paced_step : (subs : List Submission) (k : Deed) → Did p x x' k → (j : ℕ) → Paced j (x.sites j) (begun_by j subs) → Paced j (x'.sites j) (begun_by j (submission_in k ++ subs))
  paced_step subs (began q a) b = at_sites p x x' a.site b.others (λ i. Paced i (x.sites i) (begun_by i subs) → Paced i (x'.sites i) (begun_by i (a ∷ subs))) here there
    where
      here : Paced a.site (x.sites a.site) (begun_by a.site subs) → Paced a.site (x'.sites a.site) (begun_by a.site (a ∷ subs))
      here h =
          let i = a.site in
          let idle = paced_in i (x.sites i) (begun_by i subs) Idle b.idle h in
          let more : begun_by i (a ∷ subs) ≡ suc (begun_by i subs) = cond-true _ _ _ (eq-eqb i i refl) in
          subst (λ (s : SiteState). Paced i s (begun_by i (a ∷ subs))) (sym b.after) (omega (arith, more, idle), omega (arith, more, idle, b.timestamp, b.below))

      there : (j : ℕ) → (j ≡ a.site → ⊥) → x'.sites j ≡ x.sites j → Paced j (x.sites j) (begun_by j subs) → Paced j (x'.sites j) (begun_by j (a ∷ subs))
      there j n e h =
          let same : begun_by j (a ∷ subs) ≡ begun_by j subs = cond-false _ _ _ (ne_eqb a.site j (λ z. n (sym z))) in
          subst (λ (s : SiteState). Paced j s (begun_by j (a ∷ subs))) (sym e) (rw same h)
  paced_step subs (completed d) c = at_sites p x x' d.commit.site c.others (λ i. Paced i (x.sites i) (begun_by i subs) → Paced i (x'.sites i) (begun_by i subs)) here there
    where
      here : Paced d.commit.site (x.sites d.commit.site) (begun_by d.commit.site subs) → Paced d.commit.site (x'.sites d.commit.site) (begun_by d.commit.site subs)
      here h =
          let i = d.commit.site in
          let waits = paced_in i (x.sites i) (begun_by i subs) (Waiting d.code d.register) c.waits h in
          let idle : Pace Idle (slot (x'.sites i).version i).timestamp (begun_by i subs) = waits.0 ∙ sym (own_after i d c) in
          subst (λ (f : Phase). Pace f (slot (x'.sites i).version i).timestamp (begun_by i subs)) (sym (ap (λ (s : SiteState). s.phase) c.after)) idle

      there : (j : ℕ) → (j ≡ d.commit.site → ⊥) → x'.sites j ≡ x.sites j → Paced j (x.sites j) (begun_by j subs) → Paced j (x'.sites j) (begun_by j subs)
      there j n e h = subst (λ (s : SiteState). Paced j s (begun_by j subs)) (sym e) h
  paced_step subs (took t) b = λ j. rest_paced j (begun_by j subs) (b j)
  paced_step subs other b = λ j. rest_paced j (begun_by j subs) (b j)

  current_step : (n : ℕ) (ds : List Completion) (k : Deed) → Did p x x' k → (j : ℕ) → (x.sites j).version ≡ current n ds j
      → (x'.sites j).version ≡ current n (completion_in k ++ ds) j
  current_step n ds (began q a) b = λ j h.
      at_sites p x x' a.site b.others (λ i. (x'.sites i).version ≡ (x.sites i).version) (ap (λ (s : SiteState). s.version) b.after)
      (λ i m e. ap (λ (s : SiteState). s.version) e) j
      ∙ h
  current_step n ds (completed d) c =
      at_sites p x x' d.commit.site c.others (λ i. (x.sites i).version ≡ current n ds i → (x'.sites i).version ≡ current n (d ∷ ds) i)
      (λ h. ap (λ (s : SiteState). s.version) c.after ∙ sym c.version ∙ sym (cond-true _ _ _ (eq-eqb d.commit.site d.commit.site refl)))
      (λ j m e h. ap (λ (s : SiteState). s.version) e ∙ h ∙ sym (cond-false _ _ _ (ne_eqb d.commit.site j (λ z. m (sym z)))))
  current_step n ds (took t) b = λ j h. rests_version (x.sites j) (x'.sites j) (b j) ∙ h
  current_step n ds other b = λ j h. rests_version (x.sites j) (x'.sites j) (b j) ∙ h

module _ (G : Group) (started : Started G) where
  pub paced : (r : List Event) → Doings G r → (i : ℕ) → Paced i ((now G r).sites i) (begun_by i (submissions r))
  paced [] does i = subst (λ (s : SiteState). Paced i s 0) (sym (started.sites i)) (sym (ap (λ (s : Slot). s.timestamp) (slot_zeros G.setup.size i)))
  paced (e ∷ r) does i = paced_step G.setup (now G r) e.after (submissions r) (deed e.call) does.0 i (paced r does.1 i)

  pub current_is : (r : List Event) → Doings G r → (i : ℕ) → ((now G r).sites i).version ≡ current G.setup.size (completions r) i
  current_is [] does i = ap (λ (s : SiteState). s.version) (started.sites i)
  current_is (e ∷ r) does i =
      current_step G.setup (now G r) e.after G.setup.size (completions r) (deed e.call) does.0 i (current_is r does.1 i)

  good_one : (r : List Event) → Doings G r → (x' : GroupState) (d : Completion) → Completes G.setup (now G r) x' d.commit.site d → GoodVersion G.setup.size d.commit.version
  good_one r does x' d c =
      let i = d.commit.site in
      let waits = paced_in i ((now G r).sites i) (begun_by i (submissions r)) (Waiting d.code d.register) c.waits (paced r does i) in
      let less : (slot d.reply.version i).timestamp < max_timestamp = omega (arith, waits.0, waits.1, c.passes.follows.same) in
      subst (GoodVersion G.setup.size) (sym c.version)
      (good_result G.setup.digest started.set_up.wide G.setup.size (now G r).scheme i d.reply c.passes.list c.fits.version less)

  -- every committed version can be written
  pub good_commits : (r : List Event) → Doings G r → (d : Completion) → d ∈ completions r → GoodVersion G.setup.size d.commit.version
  good_commits [] does d m = absurd m
  good_commits (e ∷ r) does d m = go (deed e.call) does.0 m (good_commits r does.1 d)
    where
      Good : Completion → Type 0
      Good z = GoodVersion G.setup.size z.commit.version

      go : (k : Deed) → Did G.setup (now G r) e.after k → d ∈ (completion_in k ++ completions r) → (d ∈ completions r → Good d) → Good d
      go (began q a) b m old = old m
      go (completed c) b (inl same) old = subst Good (sym same) (good_one r does.1 e.after c b)
      go (completed c) b (inr m) old = old m
      go (took t) b m old = old m
      go other b m old = old m
