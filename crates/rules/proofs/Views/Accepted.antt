-- What an accepted finish says of the operations finished before it, where replies only replay.
use Rattle.std.proofs.Common.{◌≡◌, ℕ, ◌+◌, Bool, true, false, cond, ◌⊎◌, List, [], ◌∷◌, ◌++◌, length, Some, None, Option, unwrap_or, sym, refl, ap, ◌∙◌, subst, inl, inr}
use Rattle.message.specs.Reply.{Listed, Response}
use Rattle.message.specs.Strings.{commit_string}
use Rattle.version.specs.Order.{Slot, slot_with, AtOrBelow}
use Rattle.rules.specs.Group.{Setup, GroupState, Group, Started, Member, slot, zeros}
use Rattle.rules.specs.Running.{Running, link, from_reply, rise, rise_all, result}
use Rattle.rules.specs.Checks.{proof_of}
use Rattle.rules.specs.Finish.{Completion}
use Rattle.rules.specs.Runs.{Event, now}
use Rattle.rules.specs.Shown.{
  ◌∈◌,
  Each,
  Deed,
  began,
  completed,
  took,
  other,
  deed,
  completion_in,
  completions,
  Signing,
  signing,
  signed,
  is_zero,
  version_checked,
  proof_checked,
  entries_checked,
  checked,
}
use Rattle.rules.specs.Law.{Replays}
use Rattle.rules.proofs.Reading.{GoodVersion, EntryFits, zero_version}
use Rattle.rules.proofs.Views.Deeds.{Did, Completes, Doings}
use Rattle.rules.proofs.Views.Results.{Foreign, own_slot, foreign_from}
use Rattle.rules.proofs.Views.Sites.{current, current_is, good_commits}
use Rattle.rules.proofs.Views.Signed.{commit_signed, proof_signed}

pub each_left : {A : Type 0} (P : A → Type 0) (s t : List A) → Each P (s ++ t) → Each P s
each_left P [] t h = tt
each_left P (x ∷ s) t h = (h.0, each_left P s t h.1)

pub each_right : {A : Type 0} (P : A → Type 0) (s t : List A) → Each P (s ++ t) → Each P t
each_right P [] t h = h
each_right P (x ∷ s) t h = each_right P s t h.1

module _ (p : Setup) where
  -- the operation before, of the site i, that made this version
  abbrev pub Made : List Completion → ℕ → List Slot → Type 0
  Made ds i v = (o : Completion) × (o ∈ ds) × (o.commit.site ≡ i) × (o.commit.version ≡ v)

  -- there is no digest, or it is the own one of an operation before, of the site i
  abbrev pub Vouched : List Completion → ℕ → Option (List ℕ) → Type 0
  Vouched ds i b = (b ≡ None) ⊎ ((o : Completion) × (o ∈ ds) × (o.commit.site ≡ i) × ((slot o.commit.version o.commit.site).digest ≡ b))

  -- each entry's digest at the running version
  abbrev pub AllVouched : List Completion → Running → List Listed → Type 0
  AllVouched ds w [] = Unit {0}
  AllVouched ds w (e ∷ es) = Vouched ds e.site (slot w.version e.site).digest × AllVouched ds (rise p.digest w e.site) es

  abbrev pub From : List Completion → ℕ → List Slot → Type 0
  From ds i v = ((is_zero v ≡ true) × (v ≡ zeros p.size)) ⊎ ((is_zero v ≡ false) × Made ds i v)

  -- the operation d was accepted after those of ds
  pub record Accepted (ds : List Completion) (d : Completion) : Type 0 where
    pub site : Member p.size d.commit.site
    pub committer : Member p.size d.reply.committer
    pub long : length d.reply.version ≡ p.size
    pub from : From ds d.reply.committer d.reply.version
    pub above : AtOrBelow (current p.size ds d.commit.site) d.reply.version
    pub same : (slot (current p.size ds d.commit.site) d.commit.site).timestamp ≡ (slot d.reply.version d.commit.site).timestamp
    pub members : Each (λ (e : Listed). Member p.size e.site) d.reply.entries
    pub foreign : Foreign d.commit.site d.reply.entries
    pub vouched : AllVouched ds (from_reply d.reply) d.reply.entries
    pub version : d.commit.version ≡ (result p.digest d.commit.site d.reply).version

  -- each after those before it
  abbrev pub Chain : List Completion → Type 0
  Chain [] = Unit {0}
  Chain (d ∷ ds) = Accepted ds d × Chain ds

  -- an operation's own slot in its version
  pub own_is : (ds : List Completion) (d : Completion) → Accepted ds d
      → slot d.commit.version d.commit.site
      ≡ slot_with ((slot d.reply.version d.commit.site).timestamp + 1) (Some (p.digest (link (rise_all p.digest (from_reply d.reply) d.reply.entries).digest d.commit.site)))
  own_is ds d a = ap (λ (v : List Slot). slot v d.commit.site) a.version ∙ own_slot p.digest p.size d.commit.site d.reply a.site a.long a.foreign

  -- it has a digest
  Told : Completion → Type 0
  Told o = (b : List ℕ) × ((slot o.commit.version o.commit.site).digest ≡ Some b)

  told : (ds : List Completion) → Chain ds → (o : Completion) → o ∈ ds → Told o
  unfolding Told
  told [] chain o m = absurd m
  told (d ∷ ds) chain o (inl e) = subst Told (sym e) (_, ap (λ (s : Slot). s.digest) (own_is ds d chain.0))
  told (d ∷ ds) chain o (inr m) = told ds chain.1 o m

module _ (G : Group) (r : List Event) (chain : Chain G.setup (completions r)) where
  abbrev InRun : Signing → Type 0
  InRun s = s ∈ signed G r

  from_checked :
      ((d : Completion) → d ∈ completions r → GoodVersion G.setup.size d.commit.version) → (i : ℕ) (v : List Slot) (g : List ℕ)
      → GoodVersion G.setup.size v → Each InRun (version_checked i v g) → From G.setup (completions r) i v
  from_checked goods i v g h all = go (is_zero v) refl all
    where
      go : (b : Bool) → is_zero v ≡ b → Each InRun (cond b [] (signing i (commit_string v) g ∷ [])) → From G.setup (completions r) i v
      go true e all = inl (e, zero_version G.setup.size v h e)
      go false e all = inr (e, commit_signed G G.setup.size r goods i v g h all.0)

  vouched_checked : (i : ℕ) (b : Option (List ℕ)) (g : List ℕ) → Each InRun (proof_checked i b g) → Vouched G.setup (completions r) i b
  unfolding Told
  vouched_checked i None g all = inl refl
  vouched_checked i (Some b) g all =
      let w = proof_signed G G.setup.size r i b g all.0 in
      let t = told G.setup (completions r) chain w.0 w.1 in
      let e : t.0 ≡ b = ap (λ (z : Option (List ℕ)). unwrap_or z []) (sym t.1) ∙ w.3 in
      inr (w.0, w.1, w.2, t.1 ∙ ap Some e)

  all_vouched : (a : Response) (w : Running) (es : List Listed) → Each InRun (entries_checked G.setup.digest a w es)
      → AllVouched G.setup (completions r) w es
  all_vouched a w [] all = tt
  all_vouched a w (e ∷ es) all =
      let proofs : List Signing = proof_checked e.site (slot w.version e.site).digest (proof_of a.proofs e.site) in (
        vouched_checked e.site _ _ (each_left InRun proofs _ all),
        all_vouched a (rise G.setup.digest w e.site) es (each_right InRun proofs _ all).1,
      )

  members_from : (g : ℕ) (es : List Listed) → Each (EntryFits G.setup.size g) es → Each (λ (e : Listed). Member G.setup.size e.site) es
  members_from g [] h = tt
  members_from g (e ∷ es) h = (h.0.site, members_from g es h.1)

  accepted_one : Started G → Doings G r → (x' : GroupState) (d : Completion) → Completes G.setup (now G r) x' d.commit.site d
      → Each InRun (checked G.setup.digest d) → Accepted G.setup (completions r) d
  accepted_one started does x' d c all =
      let a = d.reply in
      let i = d.commit.site in
      let cur = current_is G started r does i in
      let versions : List Signing = version_checked a.committer a.version a.commit_signature in
      let entries : List Signing = entries_checked G.setup.digest a (from_reply a) a.entries in
      record {
        site = c.member;
        committer = c.fits.committer;
        long = c.fits.version.0;
        from = from_checked (good_commits G started r does) a.committer a.version a.commit_signature c.fits.version (each_left InRun versions _ all);
        above = subst (λ (v : List Slot). AtOrBelow v a.version) cur c.passes.follows.above;
        same = subst (λ (v : List Slot). (slot v i).timestamp ≡ (slot a.version i).timestamp) cur c.passes.follows.same;
        members = members_from G.setup.signature a.entries c.fits.entries;
        foreign = foreign_from G.setup.digest (now G r).scheme i a (from_reply a) a.entries c.passes.list;
        vouched = all_vouched a (from_reply a) a.entries (each_left InRun entries _ (each_right InRun versions _ all));
        version = c.version;
      }

pub accepted : (G : Group) → Started G → (r : List Event) → Doings G r → Replays G r → Chain G.setup (completions r)
accepted G started [] does replays = tt
accepted G started (e ∷ r) does replays = go (deed e.call) does.0 replays.0 (accepted G started r does.1 replays.1)
  where
    Accepts : List Completion → Type 0
    Accepts ds = Chain G.setup ds

    go : (k : Deed) → Did G.setup (now G r) e.after k → Each (λ d. Each (λ s. s ∈ signed G r) (checked G.setup.digest d)) (completion_in k)
        → Accepts (completions r) → Accepts (completion_in k ++ completions r)
    go (began q a) b all chain = chain
    go (completed d) b all chain = (accepted_one G r chain started does.1 e.after d b all.0, chain)
    go (took t) b all chain = chain
    go other b all chain = chain
