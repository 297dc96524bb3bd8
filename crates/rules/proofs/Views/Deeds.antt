-- What each call did to the sites, in few facts.
use Rattle.std.proofs.Common.{◌≡◌, ℕ, ◌+◌, ◌≤◌, ◌⊎◌, List, [], ◌∷◌, Ok, Err, sym, ap, ◌∙◌, subst, inl, inr, arith}
use Rattle.std.proofs.lemmas.Bool.{cases_eq}
use Rattle.message.specs.Submit.{Submission}
use Rattle.rules.specs.declared.phase.Phase.{Phase}
use Rattle.rules.specs.declared.phase.Phase.TheVariants.{Idle, Waiting, Stopped, Retired}
use Rattle.rules.specs.declared.refusal.Refusal.TheVariants.{OutOfRange, OutOfService, OutOfTurn, ValueTooLong, TimestampLimit, TooFewSignatures, BadField, BufferTooShort}
use Rattle.rules.specs.Group.{Setup, SiteState, GroupState, Group, Started, Member, slot, own, max_timestamp}
use Rattle.rules.specs.Begin.{Request, value_of, begun, Ended}
use Rattle.rules.specs.Running.{result}
use Rattle.rules.specs.Checks.{Passes}
use Rattle.rules.specs.Finish.{Operation, Completion, completed as after-completion, finished, refused, stopped, in_phase, Abandons}
use Rattle.rules.specs.Runs.{Call, begin, finish, abandon, take_submit, take_commit, Step, OnlySite, Event, now, Run}
use Rattle.rules.specs.Shown.{Deed, began, completed, took, other, deed}
use Rattle.rules.proofs.Keeping.{number_kept}
use Rattle.rules.proofs.Reading.{ReplyFits, reply_fits}

-- a site by its number
abbrev pub numbered : ℕ → SiteState → SiteState
numbered i s = record { number = i; version = s.version; last = s.last; phase = s.phase }

numbered_same : (i : ℕ) (s : SiteState) → s.number ≡ i → s ≡ numbered i s
numbered_same i s e = λ k. record { number = e k; version = s.version; last = s.last; phase = s.phase }

-- a site stays as it was, or its service ends
pub record Ends (s s' : SiteState) : Type 0 where
  pub ended : Ended s'.phase
  pub version : s'.version ≡ s.version
  pub last : s'.last ≡ s.last

abbrev pub Rests : SiteState → SiteState → Type 0
Rests s s' = (s' ≡ s) ⊎ Ends s s'

pub rests_version : (s s' : SiteState) → Rests s s' → s'.version ≡ s.version
rests_version s s' (inl e) = ap (λ (z : SiteState). z.version) e
rests_version s s' (inr e) = e.version

pub rests_last : (s s' : SiteState) → Rests s s' → s'.last ≡ s.last
rests_last s s' (inl e) = ap (λ (z : SiteState). z.last) e
rests_last s s' (inr e) = e.last

in_phase_ends : (s s' : SiteState) (phase : Phase) → Ended phase → s' ≡ in_phase s phase → Ends s s'
in_phase_ends s s' phase h e = record {
  ended = subst (λ (z : SiteState). Ended z.phase) (sym e) h;
  version = ap (λ (z : SiteState). z.version) e;
  last = ap (λ (z : SiteState). z.last) e;
}

module _ (p : Setup) (x x' : GroupState) where
  -- only the site i changes
  abbrev pub Others : ℕ → Type 0
  Others i = (j : ℕ) → (j ≡ i → ⊥) → x'.sites j ≡ x.sites j

  -- the site i began the request q
  pub record Begins (i : ℕ) (q : Request) (a : Submission) : Type 0 where
    pub member : Member p.size i
    pub others : Others i
    pub idle : (x.sites i).phase ≡ Idle
    pub timestamp : a.timestamp ≡ (slot (x.sites i).version i).timestamp + 1
    pub below : a.timestamp ≤ max_timestamp
    pub value : a.value ≡ value_of q
    pub after : x'.sites i ≡ begun p (numbered i (x.sites i)) q

  -- the site i completed its operation
  pub record Completes (i : ℕ) (d : Completion) : Type 0 where
    pub member : Member p.size i
    pub others : Others i
    pub waits : (x.sites i).phase ≡ Waiting d.code d.register
    pub fits : ReplyFits p d.code d.reply
    pub passes : Passes p x.scheme (numbered i (x.sites i)) d.register d.reply
    pub version : d.commit.version ≡ (result p.digest i d.reply).version
    pub after : x'.sites i ≡ after-completion p (numbered i (x.sites i)) d.reply

  abbrev pub Rest : Type 0
  Rest = (j : ℕ) → Rests (x.sites j) (x'.sites j)

  abbrev pub Did : Deed → Type 0
  Did (began q a) = Begins a.site q a
  Did (completed d) = Completes d.commit.site d
  Did (took t) = Rest
  Did other = Rest

  -- what holds of the site i, and of the others since they stay as they were, holds of each
  pub at_sites : (i : ℕ) → Others i → (P : ℕ → Type 0) → P i → ((j : ℕ) → (j ≡ i → ⊥) → x'.sites j ≡ x.sites j → P j) → (j : ℕ) → P j
  at_sites i others P here there j = go (cases_eq j i)
    where
      go : (j ≡ i) ⊎ (j ≡ i → ⊥) → P j
      go (inl e) = subst P (sym e) here
      go (inr n) = there j n (others j n)

  rest_from : (i : ℕ) → OnlySite x x' i → Rests (x.sites i) (x'.sites i) → Rest
  rest_from i o here = at_sites i o.others (λ j. Rests (x.sites j) (x'.sites j)) here (λ j n e. inl e)

  abandon_rest : (i : ℕ) (t : Operation) (answer : _) → Abandons (x.sites i) (x'.sites i) t answer → Rests (x.sites i) (x'.sites i)
  abandon_rest i t (Ok _) s = inr (in_phase_ends (x.sites i) (x'.sites i) Retired tt s.1)
  abandon_rest i t (Err OutOfRange) s = absurd s
  abandon_rest i t (Err OutOfService) s = inl s.1
  abandon_rest i t (Err OutOfTurn) s = inl s.2
  abandon_rest i t (Err ValueTooLong) s = absurd s
  abandon_rest i t (Err TimestampLimit) s = absurd s
  abandon_rest i t (Err TooFewSignatures) s = absurd s
  abandon_rest i t (Err (BadField offset)) s = absurd s
  abandon_rest i t (Err BufferTooShort) s = absurd s

  -- what a step did, where each site has its number
  pub did : ((i : ℕ) → (x.sites i).number ≡ i) → (c : Call) → Step p x c x' → Did (deed c)
  did number (begin i q was is (Ok a)) s =
      let b = s.2 in
      let same = numbered_same i (x.sites i) (number i) in
      subst (λ (z : ℕ). Begins z q a) (sym (b.site ∙ number i))
      (record {
        member = s.0;
        others = s.1.others;
        idle = b.idle;
        timestamp = subst (λ (z : SiteState). a.timestamp ≡ own z + 1) same b.timestamp;
        below = omega (arith, b.timestamp, b.below);
        value = b.value;
        after = subst (λ (z : SiteState). x'.sites i ≡ begun p z q) same b.after;
      })
  did number (begin i q was is (Err e)) s = rest_from i s.1 (inl s.2.2)
  did number (finish i t bs was is (finished d)) s =
      let f = s.3 in
      let same = numbered_same i (x.sites i) (number i) in
      subst (λ (z : ℕ). Completes z d) (sym (f.site ∙ number i))
      (record {
        member = s.0;
        others = s.1.others;
        waits = f.awaits.phase;
        fits = reply_fits p d.code bs d.reply s.2 f.reads;
        passes = subst (λ (z : SiteState). Passes p x.scheme z d.register d.reply) same f.passes;
        version = subst (λ (z : SiteState). d.commit.version ≡ (result p.digest z.number d.reply).version) same f.version;
        after = subst (λ (z : SiteState). x'.sites i ≡ after-completion p z d.reply) same f.after;
      })
  did number (finish i t bs was is (refused e)) s = rest_from i s.1 (inl s.3.2)
  did number (finish i t bs was is (stopped k)) s = rest_from i s.1 (inr (in_phase_ends (x.sites i) (x'.sites i) Stopped tt s.3.0.after))
  did number (abandon i t answer) s = rest_from i s.1 (abandon_rest i t answer s.3)
  did number (take_submit bs was is (Ok a)) s = λ j. inl (ap (λ (f : ℕ → SiteState). f j) s.0.sites)
  did number (take_submit bs was is (Err e)) s = λ j. inl (ap (λ (f : ℕ → SiteState). f j) s.0.sites)
  did number (take_commit bs answer) s = λ j. inl (ap (λ (f : ℕ → SiteState). f j) s.0.sites)

-- and so for each call of a run
abbrev pub Doings : Group → List Event → Type 0
Doings G [] = Unit {0}
Doings G (e ∷ r) = Did G.setup (now G r) e.after (deed e.call) × Doings G r

pub doings : (G : Group) → Started G → (r : List Event) → Run G r → Doings G r
doings G started [] run = tt
doings G started (e ∷ r) run = (
  did G.setup (now G r) e.after (number_kept G started r run.2) e.call run.0,
  doings G started r run.2,
)
