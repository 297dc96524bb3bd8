-- A begin keeps what holds.
use Rattle.std.proofs.Common.{◌≡◌, ℕ, suc, ◌+◌, ◌≤◌, true, ◌⊎◌, List, ◌∷◌, map, Option, sym, refl, ap, ◌∙◌, subst, ap₂, subst₂, inl, inr, arith}
use Rattle.std.specs.Option.{option_map}
use Rattle.std.proofs.lemmas.Bool.{cases_eq}
use Rattle.message.specs.declared.code.Code.{Code}
use Rattle.message.specs.Strings.{submit_string, data_string}
use Rattle.message.specs.Submit.{Submission, submit}
use Rattle.signature.specs.Meaning.{SchemeMeaning}
use Rattle.store.specs.Meaning.{StoreMeaning}
use Rattle.rules.specs.declared.phase.Phase.{Phase}
use Rattle.rules.specs.declared.phase.Phase.TheVariants.{Idle, Waiting, Stopped, Retired}
use Rattle.rules.specs.Group.{Setup, SetUp, SiteState, HostState, GroupState, Member, own}
use Rattle.rules.specs.Begin.{Request, read_of, write_of, code_of, register_of, value_of, Ranged, last_with, begun, Begun}
use Rattle.rules.specs.Finish.{Completion}
use Rattle.rules.specs.Taking.{Exchange, value_with}
use Rattle.rules.specs.Runs.{OnlySite}
use Rattle.rules.specs.Shown.{◌∈◌}
use Rattle.rules.specs.Law.{last_taken}
use Rattle.rules.proofs.Keeping.{Grows}
use Rattle.rules.proofs.Lists.{all_cons}
use Rattle.rules.proofs.Honest.Good.{Signed, GoodSubmit, AtRest, Awaited, Standing, GoodSite, GoodHost, Good}
use Rattle.rules.proofs.Honest.Messages.{submit_good}
use Rattle.rules.proofs.Honest.Taken.{times, value_by}

-- a call of the site i: what holds of it now, and held of the others, holds of all
pub sites_at :
    (P : ℕ → SiteState → Type 0) (x x' : GroupState) (i : ℕ) → OnlySite x x' i → P i (x'.sites i) → ((j : ℕ) → (j ≡ i → ⊥) → P j (x.sites j))
    → (j : ℕ) → P j (x'.sites j)
sites_at P x x' i o here else j = go (cases_eq j i)
  where
    go : (j ≡ i) ⊎ (j ≡ i → ⊥) → P j (x'.sites j)
    go (inl e) = subst (λ (z : ℕ). P z (x'.sites z)) (sym e) here
    go (inr n) = subst (P j) (sym (o.others j n)) (else j n)

-- the digest of the last value, the new one included
last_digest : (H : List ℕ → List ℕ) (o : Option (List ℕ)) (q : Request) → last_with H (option_map H o) q ≡ option_map H (value_with (code_of q) (value_of q) o)
last_digest H o (read_of r) = refl
last_digest H o (write_of v) = refl

module _ (p : Setup) (all : List Submission) (sch : SchemeMeaning) where
  -- the host is as it was
  pub host_kept :
      (taken : List Submission) (x x' : GroupState) (i : ℕ) → OnlySite x x' i → GoodHost p all sch taken x.host x.store
      → GoodHost p all sch taken x'.host x'.store
  host_kept taken x x' i o g = subst₂ (λ (h : HostState) (m : StoreMeaning). GoodHost p all sch taken h m) (sym o.host) (sym o.store) g

  -- a submit of another site is nothing to the site k
  other_more :
      (P : Submission → Type 0) (written : List Submission) (k : ℕ) (a : Submission) → (a.site ≡ k → ⊥)
      → ((b : Submission) → b ∈ written → b.site ≡ k → P b) → (b : Submission) → b ∈ (a ∷ written) → b.site ≡ k → P b
  other_more P written k a n rest b (inl e) s = absurd (n (sym (ap (λ (z : Submission). z.site) e) ∙ s))
  other_more P written k a n rest b (inr m) s = rest b m s

  standing_more :
      (written : List Submission) (k : ℕ) (s : SiteState) (upto : List Submission) (a : Submission) → (a.site ≡ k → ⊥) → (phase : Phase)
      → Standing p all sch written k s upto phase → Standing p all sch (a ∷ written) k s upto phase
  standing_more written k s upto a n Idle h =
      record { last = h.last; none_above = other_more (λ b. b.timestamp ≤ own s) written k a n h.none_above }
  standing_more written k s upto a n (Waiting c r) h = record {
    none_above = other_more (λ b. b.timestamp ≤ own s + 1) written k a n h.none_above;
    this = other_more (λ b. b.timestamp ≡ own s + 1 → Awaited p all sch s upto c r b) written k a n h.this;
  }
  standing_more written k s upto a n Stopped h = h
  standing_more written k s upto a n Retired h = h

  site_more :
      (written : List Submission) (k : ℕ) (s : SiteState) (a : Submission) → (a.site ≡ k → ⊥) → GoodSite p all sch written k s
      → GoodSite p all sch (a ∷ written) k s
  site_more written k s a n g = record {
    number = g.number;
    upto = g.upto;
    inside = g.inside;
    own = g.own;
    long = g.long;
    fits = g.fits;
    standing = standing_more written k s g.upto a n s.phase g.standing;
  }

  module _
      (set_up : SetUp p)
      (written : List Submission)
      (m m' : SchemeMeaning)
      (i : ℕ)
      (s s' : SiteState)
      (q : Request)
      (was is : List ℕ)
      (a : Submission)
      (member : Member p.size i)
      (g : GoodSite p all sch written i s)
      (b : Begun p m m' s s' q was is a)
      (grows : Grows m' sch)
    where
      rest : AtRest p all sch written i s g.upto
      rest = subst (Standing p all sch written i s g.upto) b.idle g.standing

      site_is : a.site ≡ i
      site_is = b.site ∙ g.number

      number : a.timestamp ≡ suc (times a.site g.upto)
      number =
          let e : times s.number g.upto ≡ times a.site g.upto = ap (λ (z : ℕ). times z g.upto) (sym b.site) in
          omega (arith, e, b.timestamp, (g.fits s.number).0)

      last_is : last_with p.digest s.last q ≡ option_map p.digest (value_by a (last_taken a.site g.upto))
      last_is =
          ap (λ (z : Option (List ℕ)). last_with p.digest z q) (rest.last ∙ ap (λ (z : ℕ). option_map p.digest (last_taken z g.upto)) (sym site_is))
          ∙ last_digest p.digest (last_taken a.site g.upto) q
          ∙ sym (ap₂ (λ (c : Code) (v : Option (List ℕ)). option_map p.digest (value_with c v (last_taken a.site g.upto))) b.code b.value)

      register_is : (q : Request) → Ranged p q → a.register ≡ register_of s.number q → Member p.size a.register
      register_is (read_of r) h e = subst (Member p.size) (sym e) h
      register_is (write_of v) h e = subst (Member p.size) (sym (e ∙ g.number)) member

      form : (submit p.size p.signature).Good a
      form =
          submit_good p.size p.signature a q set_up.size.1 (subst (Member p.size) (sym site_is) member) (register_is q b.ranged b.register)
          b.code (b.register ∙ ap (λ (z : ℕ). register_of z q) (sym b.site)) b.value b.short (omega (arith, b.timestamp, b.below))
          b.submits.fits.sized b.datas.fits.sized

      -- what was signed is valid at the end of the run
      signed : (text signature : List ℕ) → m'.valid s.number text signature ≡ true → Signed p all sch a.site text signature
      signed text signature v = subst (λ (z : ℕ). Signed p all sch z text signature) (sym b.site) (grows s.number text signature v)

      written_good : GoodSubmit p all sch a
      written_good = record {
        before = g.upto;
        inside = g.inside;
        follows = record {
          form = form;
          number = number;
          signed =
              signed (submit_string a.code a.register a.timestamp) a.submit_signature
              (b.datas.stays s.number (submit_string a.code a.register a.timestamp) a.submit_signature b.submits.holds);
        };
        data_signed =
            subst (λ (z : Option (List ℕ)). Signed p all sch a.site (data_string a.timestamp z) a.data_signature)
            (ap (λ (z : SiteState). z.last) b.after ∙ last_is)
            (signed (data_string a.timestamp s'.last) a.data_signature b.datas.holds);
      }

      awaited : Awaited p all sch (begun p s q) g.upto (code_of q) (register_of s.number q) a
      awaited = record { code = b.code; register = b.register; last = last_is }

      few : (c : Submission) → c ∈ (a ∷ written) → c.site ≡ i → c.timestamp ≤ own s + 1
      few c (inl e) k = omega (arith, ap (λ (z : Submission). z.timestamp) e, b.timestamp)
      few c (inr h) k = omega (arith, rest.none_above c h k)

      this :
          (c : Submission) → c ∈ (a ∷ written) → c.site ≡ i → c.timestamp ≡ own s + 1
          → Awaited p all sch (begun p s q) g.upto (code_of q) (register_of s.number q) c
      this c (inl e) k t = subst (Awaited p all sch (begun p s q) g.upto (code_of q) (register_of s.number q)) (sym e) awaited
      this c (inr h) k t = absurd (omega (arith, t, rest.none_above c h k))

      begun_good : GoodSite p all sch (a ∷ written) i s'
      begun_good = subst (GoodSite p all sch (a ∷ written) i) (sym b.after) (record {
        number = g.number;
        upto = g.upto;
        inside = g.inside;
        own = g.own;
        long = g.long;
        fits = g.fits;
        standing = record { none_above = few; this = this };
      })

  pub begin_good :
      (set_up : SetUp p) (written : List Submission) (done : List Completion) (answered : List Exchange) (x x' : GroupState) (i : ℕ) (q : Request)
      (was is : List ℕ) (a : Submission) → Member p.size i → OnlySite x x' i → Begun p x.scheme x'.scheme (x.sites i) (x'.sites i) q was is a
      → Grows x'.scheme sch → Good p all sch written done answered x → Good p all sch (a ∷ written) done answered x'
  begin_good set_up written done answered x x' i q was is a member o b grows g = record {
    sites =
        sites_at (GoodSite p all sch (a ∷ written)) x x' i o
        (begun_good set_up written x.scheme x'.scheme i (x.sites i) (x'.sites i) q was is a member (g.sites i) b grows)
        (λ j n. site_more written j (x.sites j) a (λ e. n (sym e ∙ b.site ∙ (g.sites i).number)) (g.sites j));
    host = host_kept (map (λ (e : Exchange). e.submission) answered) x x' i o g.host;
    submits =
        all_cons (GoodSubmit p all sch) a written
        (written_good set_up written x.scheme x'.scheme i (x.sites i) (x'.sites i) q was is a member (g.sites i) b grows) g.submits;
    completions = g.completions;
    exchanges = λ e m. let old = g.exchanges e m in (inr old.0, old.1);
  }
