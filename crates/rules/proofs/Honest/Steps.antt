-- Each call keeps what holds, but for a finish that stops.
use Rattle.std.proofs.Common.{◌≡◌, ℕ, List, ◌∷◌, ◌++◌, map, Ok, Err, Result, sym, subst, subst₂}
use Rattle.message.specs.Submit.{Submission}
use Rattle.signature.specs.Meaning.{SchemeMeaning}
use Rattle.store.specs.Meaning.{StoreMeaning}
use Rattle.rules.specs.declared.phase.Phase.TheVariants.{Retired}
use Rattle.rules.specs.declared.refusal.Refusal.{Refusal}
use Rattle.rules.specs.declared.refusal.Refusal.TheVariants.{OutOfRange, OutOfService, OutOfTurn, ValueTooLong, TimestampLimit, TooFewSignatures, BadField, BufferTooShort}
use Rattle.rules.specs.Group.{Setup, SetUp, SiteState, HostState, GroupState, Group}
use Rattle.rules.specs.Finish.{Operation, Completion, finished, refused, stopped, in_phase, Abandons}
use Rattle.rules.specs.Taking.{Exchange}
use Rattle.rules.specs.Runs.{Call, begin, finish, abandon, take_submit, take_commit, OnlySite, OnlyHost, Step, Event, now}
use Rattle.rules.specs.Shown.{Deed, deed, began, completed, took, other, exchange_in, submissions, completions, exchanges}
use Rattle.rules.specs.Law.{Delivered, taken}
use Rattle.rules.proofs.Keeping.{Grows}
use Rattle.rules.proofs.Lists.{Ends, ends_tail}
use Rattle.rules.proofs.Honest.Begin.{sites_at, host_kept, begin_good}
use Rattle.rules.proofs.Honest.Finish.{finish_good}
use Rattle.rules.proofs.Honest.Good.{GoodHost, GoodSite, Good}
use Rattle.rules.proofs.Honest.TakeCommit.{take_commit_good}
use Rattle.rules.proofs.Honest.TakeSubmit.{take_submit_good}

module _ (p : Setup) (all : List Submission) (sch : SchemeMeaning) (written : List Submission) (done : List Completion) (answered : List Exchange) (x x' : GroupState) where
  abbrev Kept : Type 0
  Kept = Good p all sch written done answered x → Good p all sch written done answered x'

  site_step : (i : ℕ) → OnlySite x x' i → (GoodSite p all sch written i (x.sites i) → GoodSite p all sch written i (x'.sites i)) → Kept
  site_step i o f g = record {
    sites = sites_at (GoodSite p all sch written) x x' i o (f (g.sites i)) (λ j n. g.sites j);
    host = host_kept p all sch (map (λ (e : Exchange). e.submission) answered) x x' i o g.host;
    submits = g.submits;
    completions = g.completions;
    exchanges = g.exchanges;
  }

  -- a refusal leaves all as it was
  same_site : (i : ℕ) → OnlySite x x' i → x'.sites i ≡ x.sites i → Kept
  same_site i o e = site_step i o (λ s. subst (GoodSite p all sch written i) (sym e) s)

  same_host : OnlyHost x x' → x'.host ≡ x.host → x'.store ≡ x.store → Kept
  same_host o e f g = record {
    sites = λ k. subst (λ (z : ℕ → SiteState). GoodSite p all sch written k (z k)) (sym o.sites) (g.sites k);
    host =
        subst₂ (λ (h : HostState) (m : StoreMeaning). GoodHost p all sch (map (λ (e : Exchange). e.submission) answered) h m) (sym e) (sym f) g.host;
    submits = g.submits;
    completions = g.completions;
    exchanges = g.exchanges;
  }

  retire : (i : ℕ) → OnlySite x x' i → x'.sites i ≡ in_phase (x.sites i) Retired → Kept
  retire i o e = site_step i o retired
    where
      retired : GoodSite p all sch written i (x.sites i) → GoodSite p all sch written i (x'.sites i)
      retired s = subst (GoodSite p all sch written i) (sym e) (record {
        number = s.number;
        upto = s.upto;
        inside = s.inside;
        own = s.own;
        long = s.long;
        fits = s.fits;
        standing = tt;
      })

  abandon_good : (i : ℕ) (t : Operation) → OnlySite x x' i → (a : Result (Unit {0}) Refusal) → Abandons (x.sites i) (x'.sites i) t a → Kept
  abandon_good i t o (Ok _) s = retire i o s.1
  abandon_good i t o (Err OutOfRange) s = absurd s
  abandon_good i t o (Err OutOfService) s = same_site i o s.1
  abandon_good i t o (Err OutOfTurn) s = same_site i o s.2
  abandon_good i t o (Err ValueTooLong) s = absurd s
  abandon_good i t o (Err TimestampLimit) s = absurd s
  abandon_good i t o (Err TooFewSignatures) s = absurd s
  abandon_good i t o (Err (BadField offset)) s = absurd s
  abandon_good i t o (Err BufferTooShort) s = absurd s

-- the call does not stop a site
abbrev pub Fine : Call → Type 0
Fine (begin i q was is a) = Unit {0}
Fine (finish i t bs was is (finished d)) = Unit {0}
Fine (finish i t bs was is (refused e)) = Unit {0}
Fine (finish i t bs was is (stopped k)) = ⊥
Fine (abandon i t a) = Unit {0}
Fine (take_submit bs was is a) = Unit {0}
Fine (take_commit bs a) = Unit {0}

module _ (G : Group) (set_up : SetUp G.setup) (all : List Submission) (sch : SchemeMeaning) where
  -- what holds after a run
  abbrev pub GoodAfter : List Event → Type 0
  GoodAfter r = Good G.setup all sch (submissions r) (completions r) (exchanges r) (now G r)

  pub step_good :
      (r : List Event) (c : Call) (x : GroupState) → Step G.setup (now G r) c x → Delivered G r c → Fine c
      → Ends (taken (record { call = c; after = x } ∷ r)) all → Grows x.scheme sch → GoodAfter r → GoodAfter (record { call = c; after = x } ∷ r)
  step_good r (begin i q was is (Ok a)) x s d f t k g =
      begin_good G.setup all sch set_up (submissions r) (completions r) (exchanges r) (now G r) x i q was is a s.0 s.1 s.2 k g
  step_good r (begin i q was is (Err e)) x s d f t k g =
      same_site G.setup all sch (submissions r) (completions r) (exchanges r) (now G r) x i s.1 s.2.2 g
  step_good r (finish i o bs was is (finished c)) x s d f t k g =
      finish_good G.setup all sch set_up (submissions r) (completions r) (exchanges r) (now G r) x i o bs was is c d.exchange s.0 s.1 s.3
      d.given d.ticket d.bytes k g
  step_good r (finish i o bs was is (refused e)) x s d f t k g =
      same_site G.setup all sch (submissions r) (completions r) (exchanges r) (now G r) x i s.1 s.3.2 g
  step_good r (finish i o bs was is (stopped e)) x s d f t k g = absurd f
  step_good r (abandon i o a) x s d f t k g =
      abandon_good G.setup all sch (submissions r) (completions r) (exchanges r) (now G r) x i o s.1 a s.3 g
  step_good r (take_submit bs was is (Ok e)) x s d f t k g =
      take_submit_good G.setup all sch (submissions r) (completions r) (exchanges r) (now G r) x bs was is e s.0 s.2 d t g
  step_good r (take_submit bs was is (Err e)) x s d f t k g =
      same_host G.setup all sch (submissions r) (completions r) (exchanges r) (now G r) x s.0 s.2.1 s.2.2 g
  step_good r (take_commit bs (Ok c)) x s d f t k g =
      take_commit_good G.setup all sch (submissions r) (completions r) (exchanges r) (now G r) x bs c s.0 s.2 d t g
  step_good r (take_commit bs (Err e)) x s d f t k g =
      same_host G.setup all sch (submissions r) (completions r) (exchanges r) (now G r) x s.0 s.2.1 s.2.2 g

-- what was taken before is the older part of what was taken
pub taken_before : (all : List Submission) (r : List Event) (e : Event) → Ends (taken (e ∷ r)) all → Ends (taken r) all
taken_before all r e = go (deed e.call)
  where
    go : (d : Deed) → Ends (map (λ (x : Exchange). x.submission) (exchange_in d ++ exchanges r)) all → Ends (taken r) all
    go (began q a) t = t
    go (completed d) t = t
    go (took x) t = ends_tail x.submission (taken r) all t
    go other t = t
