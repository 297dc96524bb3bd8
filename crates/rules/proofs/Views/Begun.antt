-- A site begins its operations one after the other, and signs the digest of the value that it wrote last.
use Rattle.std.proofs.Common.{◌≡◌, ℕ, ◌^◌, ◌<◌, ◌⊎◌, List, [], ◌∷◌, ◌++◌, Some, None, Option, sym, refl, ap, ◌∙◌, subst, inl, inr, arith}
use mathlib.Core.Path.{subst₃}
use Rattle.std.specs.Option.{option_map}
use Rattle.std.proofs.lemmas.Bool.{eq-eqb, ne_eqb, cond-true, cond-false}
use Rattle.message.specs.Strings.{data_string, WideDigest}
use Rattle.message.specs.Submit.{Submission}
use Rattle.message.proofs.Tags.{strings_tell_apart}
use Rattle.rules.specs.declared.phase.Phase.TheVariants.{Idle}
use Rattle.rules.specs.Group.{SiteState, GroupState, Group, Started}
use Rattle.rules.specs.Begin.{Request, read_of, write_of, value_of, last_with}
use Rattle.rules.specs.Runs.{Event, now}
use Rattle.rules.specs.Shown.{
  ◌∈◌,
  Deed,
  began,
  completed,
  took,
  other,
  deed,
  submission_in,
  submissions,
  signing,
  signed_in,
  signed,
}
use Rattle.rules.specs.History.{or_else}
use Rattle.rules.proofs.Lists.{in_cases}
use Rattle.rules.proofs.Views.Deeds.{rests_last, Did, Begins, at_sites, Doings}
use Rattle.rules.proofs.Views.Sites.{begun_by, paced_in, paced}
use Rattle.rules.proofs.Views.Signed.{same_site, same_text, kinds_differ}
use Rattle.rules.proofs.Views.Written.{latest, Next, Known, known_more, latest_new}

-- the digest of the last value with one request more
last_with-or_else : (H : List ℕ → List ℕ) (q : Request) (v : Option (List ℕ)) → last_with H (option_map H v) q ≡ option_map H (or_else (value_of q) v)
last_with-or_else H (read_of r) v = refl
last_with-or_else H (write_of x) v = refl

module _ (G : Group) (started : Started G) where
  -- a site begins its operations one after the other
  next : (r : List Event) → Doings G r → (x' : GroupState) (q : Request) (a : Submission) → Begins G.setup (now G r) x' a.site q a → Next (submissions r) a
  next r does x' q a b =
      let i = a.site in
      let idle = paced_in i ((now G r).sites i) (begun_by i (submissions r)) Idle b.idle (paced G started r does i) in
      omega (arith, b.timestamp)

  -- what is known stays known
  pub known_step : (r : List Event) → Doings G r → (x' : GroupState) (k : Deed) → Did G.setup (now G r) x' k → (i t : ℕ) (d : Option (List ℕ))
      → Known G.setup.digest (submissions r) i t d → Known G.setup.digest (submission_in k ++ submissions r) i t d
  known_step r does x' (began q a) b i t d h = known_more G.setup.digest (submissions r) a i t d (next r does x' q a b) h
  known_step r does x' (completed c) b i t d h = h
  known_step r does x' (took c) b i t d h = h
  known_step r does x' other b i t d h = h

  -- a site keeps the digest of the value that it wrote last
  abbrev Keeps : List Submission → ℕ → SiteState → Type 0
  Keeps subs i s = s.last ≡ option_map G.setup.digest (latest subs i (begun_by i subs))

  keeps_begin : (subs : List Submission) (x x' : GroupState) (q : Request) (a : Submission) → Next subs a → Begins G.setup x x' a.site q a
      → Keeps subs a.site (x.sites a.site) → Keeps (a ∷ subs) a.site (x'.sites a.site)
  keeps_begin subs x x' q a next b h =
      let H = G.setup.digest in
      let i = a.site in
      let old : Option (List ℕ) = latest subs i (begun_by i subs) in
      ap (λ (s : SiteState). s.last) b.after ∙ ap (λ (z : Option (List ℕ)). last_with H z q) h ∙ last_with-or_else H q old
      ∙ ap (λ (z : Option (List ℕ)). option_map H (or_else z old)) (sym b.value) ∙ ap (option_map H) (sym (latest_new subs a next))

  keeps_step : (subs : List Submission) (x x' : GroupState) (k : Deed) → Did G.setup x x' k
      → ((q : Request) (a : Submission) → Begins G.setup x x' a.site q a → Next subs a)
      → (j : ℕ) → Keeps subs j (x.sites j) → Keeps (submission_in k ++ subs) j (x'.sites j)
  keeps_step subs x x' (began q a) b next =
      at_sites G.setup x x' a.site b.others (λ i. Keeps subs i (x.sites i) → Keeps (a ∷ subs) i (x'.sites i)) (keeps_begin subs x x' q a (next q a b) b) there
    where
      H : List ℕ → List ℕ
      H = G.setup.digest

      there : (j : ℕ) → (j ≡ a.site → ⊥) → x'.sites j ≡ x.sites j → Keeps subs j (x.sites j) → Keeps (a ∷ subs) j (x'.sites j)
      there j n e h =
          let same : begun_by j (a ∷ subs) ≡ begun_by j subs = cond-false _ _ _ (ne_eqb a.site j (λ z. n (sym z))) in
          let k = known_more H subs a j (begun_by j subs) (x.sites j).last (next q a b) (record { begun = omega arith; last = h }) in
          ap (λ (s : SiteState). s.last) e ∙ k.last ∙ ap (λ (t : ℕ). option_map H (latest (a ∷ subs) j t)) (sym same)
  keeps_step subs x x' (completed d) c next =
      at_sites G.setup x x' d.commit.site c.others (λ i. Keeps subs i (x.sites i) → Keeps subs i (x'.sites i))
      (λ h. ap (λ (s : SiteState). s.last) c.after ∙ h) (λ j n e h. ap (λ (s : SiteState). s.last) e ∙ h)
  keeps_step subs x x' (took t) b next = λ j h. rests_last (x.sites j) (x'.sites j) (b j) ∙ h
  keeps_step subs x x' other b next = λ j h. rests_last (x.sites j) (x'.sites j) (b j) ∙ h

  keeps : (r : List Event) → Doings G r → (i : ℕ) → Keeps (submissions r) i ((now G r).sites i)
  keeps [] does i = ap (λ (s : SiteState). s.last) (started.sites i)
  keeps (e ∷ r) does i =
      keeps_step (submissions r) (now G r) e.after (deed e.call) does.0 (next r does.1 e.after) i (keeps r does.1 i)

  -- the digest that a begin signs is that of the value last written
  signs_last : (subs : List Submission) (x x' : GroupState) (q : Request) (a : Submission) → Next subs a → Begins G.setup x x' a.site q a
      → Keeps subs a.site (x.sites a.site) → Known G.setup.digest (a ∷ subs) a.site a.timestamp (last_with G.setup.digest (x.sites a.site).last q)
  signs_last subs x x' q a next b h =
      let all : a.timestamp ≡ begun_by a.site (a ∷ subs) = next ∙ sym (cond-true _ _ _ (eq-eqb a.site a.site refl)) in
      record {
        begun = omega (arith, all);
        last = sym (ap (λ (s : SiteState). s.last) b.after) ∙ keeps_begin subs x x' q a next b h
            ∙ ap (λ (t : ℕ). option_map G.setup.digest (latest (a ∷ subs) a.site t)) (sym all);
      }

  pub wide_digest : (v : Option (List ℕ)) → WideDigest (option_map G.setup.digest v)
  wide_digest None = tt
  wide_digest (Some x) = started.set_up.wide x

  module _ (i t : ℕ) (d : Option (List ℕ)) (g : List ℕ) (small : t < 2 ^ 32) (wide : WideDigest d) where
    signed_now : (r : List Event) → Doings G r → (x' : GroupState) (k : Deed) → Did G.setup (now G r) x' k
        → signing i (data_string t d) g ∈ signed_in G.setup.digest (now G r) k → Known G.setup.digest (submission_in k ++ submissions r) i t d
    signed_now r does x' (began q a) b (inl e) = absurd (kinds_differ 1 0 _ _ (omega arith) (same_text e))
    signed_now r does x' (began q a) b (inr (inl e)) =
        let H = G.setup.digest in
        let k = signs_last (submissions r) (now G r) x' q a (next r does x' q a b) b (keeps r does a.site) in
        let same = strings_tell_apart.datas t a.timestamp d (last_with H ((now G r).sites a.site).last q) small (omega (arith, b.below)) wide
        (subst WideDigest (sym k.last) (wide_digest _)) (same_text e) in
        subst₃ (Known H (a ∷ submissions r)) (sym (same_site e)) (sym same.0) (sym same.1) k
    signed_now r does x' (began q a) b (inr (inr m)) = absurd m
    signed_now r does x' (completed c) b (inl e) = absurd (kinds_differ 1 2 _ _ (omega arith) (same_text e))
    signed_now r does x' (completed c) b (inr (inl e)) = absurd (kinds_differ 1 3 _ _ (omega arith) (same_text e))
    signed_now r does x' (completed c) b (inr (inr m)) = absurd m
    signed_now r does x' (took c) b m = absurd m
    signed_now r does x' other b m = absurd m

    -- a site signed as its data only the digest of the value that it had last written
    pub data_signed : (r : List Event) → Doings G r → signing i (data_string t d) g ∈ signed G r → Known G.setup.digest (submissions r) i t d
    data_signed [] does m = absurd m
    data_signed (e ∷ r) does m =
        go (in_cases (signing i (data_string t d) g) (signed_in G.setup.digest (now G r) (deed e.call)) (signed G r) m) (data_signed r does.1)
      where
        go : (signing i (data_string t d) g ∈ signed_in G.setup.digest (now G r) (deed e.call)) ⊎ (signing i (data_string t d) g ∈ signed G r)
            → (signing i (data_string t d) g ∈ signed G r → Known G.setup.digest (submissions r) i t d) → Known G.setup.digest (submissions (e ∷ r)) i t d
        go (inl k) old = signed_now r does.1 e.after (deed e.call) does.0 k
        go (inr k) old = known_step r does.1 e.after (deed e.call) does.0 i t d (old k)
