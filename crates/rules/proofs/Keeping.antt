-- What every step of a run keeps.
use Rattle.std.proofs.Common.{◌≡◌, ℕ, true, ◌⊎◌, List, [], ◌∷◌, Ok, Err, sym, ap, ◌∙◌, subst, inl, inr}
use Rattle.std.proofs.lemmas.Bool.{cases_eq}
use Rattle.signature.specs.Meaning.{SchemeMeaning}
use Rattle.rules.specs.declared.refusal.Refusal.TheVariants.{OutOfRange, OutOfService, OutOfTurn, ValueTooLong, TimestampLimit, TooFewSignatures, BadField, BufferTooShort}
use Rattle.rules.specs.Group.{Setup, SiteState, GroupState, Group, Started, SoundParts}
use Rattle.rules.specs.Finish.{finished, refused, stopped, Abandons, Operation}
use Rattle.rules.specs.Runs.{Call, begin, finish, abandon, take_submit, take_commit, Step, OnlySite, Event, now, Run}

-- what was valid stays valid
abbrev pub Grows : SchemeMeaning → SchemeMeaning → Type 0
Grows m m' = (i : ℕ) (text signature : List ℕ) → m.valid i text signature ≡ true → m'.valid i text signature ≡ true

same_grows : (m m' : SchemeMeaning) → m' ≡ m → Grows m m'
same_grows m m' e i text signature v = subst (λ (z : SchemeMeaning). z.valid i text signature ≡ true) (sym e) v

pub step_grows : (p : Setup) (x x' : GroupState) (c : Call) → Step p x c x' → Grows x.scheme x'.scheme
step_grows p x x' (begin i q was is (Ok a)) s = λ k t g v. s.2.datas.stays k t g (s.2.submits.stays k t g v)
step_grows p x x' (begin i q was is (Err e)) s = same_grows x.scheme x'.scheme s.2.1
step_grows p x x' (finish i t bs was is (finished d)) s = λ k u g v. s.3.proves.stays k u g (s.3.commits.stays k u g v)
step_grows p x x' (finish i t bs was is (refused e)) s = same_grows x.scheme x'.scheme s.3.1
step_grows p x x' (finish i t bs was is (stopped k)) s = same_grows x.scheme x'.scheme s.3.1
step_grows p x x' (abandon i t answer) s = same_grows x.scheme x'.scheme s.2
step_grows p x x' (take_submit bs was is answer) s = same_grows x.scheme x'.scheme s.0.scheme
step_grows p x x' (take_commit bs answer) s = same_grows x.scheme x'.scheme s.0.scheme

-- a site keeps its number
module _ (x x' : GroupState) where
  Named : Type 0
  Named = (j : ℕ) → (x'.sites j).number ≡ (x.sites j).number

  site_named : (i : ℕ) → OnlySite x x' i → (x'.sites i).number ≡ (x.sites i).number → Named
  unfolding Named
  site_named i o e j = go (cases_eq j i)
    where
      go : (j ≡ i) ⊎ (j ≡ i → ⊥) → (x'.sites j).number ≡ (x.sites j).number
      go (inl f) = subst (λ (z : ℕ). (x'.sites z).number ≡ (x.sites z).number) (sym f) e
      go (inr n) = ap (λ (s : SiteState). s.number) (o.others j n)

  same_named : (i : ℕ) → OnlySite x x' i → x'.sites i ≡ x.sites i → Named
  same_named i o e = site_named i o (ap (λ (s : SiteState). s.number) e)

  abandon_named : (i : ℕ) (t : Operation) → OnlySite x x' i → (answer : _) → Abandons (x.sites i) (x'.sites i) t answer → Named
  abandon_named i t o (Ok _) s = site_named i o (ap (λ (s : SiteState). s.number) s.1)
  abandon_named i t o (Err OutOfRange) s = absurd s
  abandon_named i t o (Err OutOfService) s = same_named i o s.1
  abandon_named i t o (Err OutOfTurn) s = same_named i o s.2
  abandon_named i t o (Err ValueTooLong) s = absurd s
  abandon_named i t o (Err TimestampLimit) s = absurd s
  abandon_named i t o (Err TooFewSignatures) s = absurd s
  abandon_named i t o (Err (BadField offset)) s = absurd s
  abandon_named i t o (Err BufferTooShort) s = absurd s

  step_named : (p : Setup) (c : Call) → Step p x c x' → Named
  unfolding Named
  step_named p (begin i q was is (Ok a)) s = site_named i s.1 (ap (λ (z : SiteState). z.number) s.2.after)
  step_named p (begin i q was is (Err e)) s = same_named i s.1 s.2.2
  step_named p (finish i t bs was is (finished d)) s = site_named i s.1 (ap (λ (z : SiteState). z.number) s.3.after)
  step_named p (finish i t bs was is (refused e)) s = same_named i s.1 s.3.2
  step_named p (finish i t bs was is (stopped k)) s = site_named i s.1 (ap (λ (z : SiteState). z.number) s.3.0.after)
  step_named p (abandon i t answer) s = abandon_named i t s.1 answer s.3
  step_named p (take_submit bs was is answer) s = λ j. ap (λ (f : ℕ → SiteState). (f j).number) s.0.sites
  step_named p (take_commit bs answer) s = λ j. ap (λ (f : ℕ → SiteState). (f j).number) s.0.sites

pub number_kept : (G : Group) → Started G → (r : List Event) → Run G r → (i : ℕ) → ((now G r).sites i).number ≡ i
unfolding Named
number_kept G started [] run i = ap (λ (s : SiteState). s.number) (started.sites i)
number_kept G started (e ∷ r) run i = step_named (now G r) e.after G.setup e.call run.0 i ∙ number_kept G started r run.2 i

-- the scheme and the store are sound at every moment
pub sound_kept : (G : Group) → Started G → (r : List Event) → Run G r → SoundParts G.setup (now G r)
sound_kept G started [] run = started.parts
sound_kept G started (e ∷ r) run = run.1
