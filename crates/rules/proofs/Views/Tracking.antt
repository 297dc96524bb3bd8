-- The version of each operation fits its view history.
use Rattle.std.proofs.Common.{◌≡◌, ℕ, ◌⊎◌, List, [], ◌∷◌, length, Option, sym, refl, ap, ◌∙◌, subst, subst₂, inl, inr}
use Rattle.message.specs.Reply.{Listed}
use Rattle.version.specs.Order.{Slot}
use Rattle.rules.specs.Group.{Setup, Member, slot, zeros}
use Rattle.rules.specs.Running.{Running, link, from_reply, rise, rise_all, links, all_links}
use Rattle.rules.specs.Finish.{Completion}
use Rattle.rules.specs.Shown.{◌∈◌, Each}
use Rattle.rules.proofs.Lists.{cut, cut_here, in_left, in_right}
use Rattle.rules.proofs.Slots.{slot_zeros}
use Rattle.rules.proofs.Fitting.{D, Fits, Tracks, fits_zeros, tracks_rise}
use Rattle.rules.proofs.Views.Accepted.{Accepted, Chain}
use Rattle.rules.proofs.Views.Names.{itself, onto}
use Rattle.rules.proofs.Views.Histories.{View, Views}
use Rattle.rules.proofs.Views.Digests.{Told}

-- the strings digested at these operations are among those of S
abbrev pub Spread : (List ℕ → List ℕ) → List (List ℕ) → List Completion → Type 0
Spread H S ds = (d : Completion) → d ∈ ds → (x : List ℕ) → x ∈ all_links H d.commit.site d.reply → x ∈ S

module _ (p : Setup) (h : Completion → List ℕ) (S : List (List ℕ)) where
  -- a running version fits a history whose strings are known
  pub record Walked (w : Running) (b : List ℕ) : Type 0 where
    pub tracks : Tracks p.digest itself p.size w b
    pub told : Told p.digest S b

  pub walk_one : (w : Running) (b : List ℕ) (i : ℕ) → Member p.size i → link w.digest i ∈ S → Walked w b → Walked (rise p.digest w i) (i ∷ b)
  walk_one w b i is m k = record {
    tracks = tracks_rise p.digest itself p.size i b w is k.tracks;
    told = (subst (λ (z : Option (List ℕ)). link z i ∈ S) k.tracks.running m, k.told);
  }

  walk_all : (w : Running) (b : List ℕ) (es : List Listed) → Each (λ (e : Listed). Member p.size e.site) es
      → ((x : List ℕ) → x ∈ links p.digest w es → x ∈ S) → Walked w b → Walked (rise_all p.digest w es) (onto es b)
  walk_all w b [] is sub k = k
  walk_all w b (e ∷ es) is sub k =
      walk_all (rise p.digest w e.site) (e.site ∷ b) es is.1 (λ x m. sub x (inr m)) (walk_one w b e.site is.0 (sub _ (inl refl)) k)

  -- an operation's version fits its history, whose digest is its own
  pub record Good (d : Completion) : Type 0 where
    pub fits : Fits p.digest itself d.commit.version (h d)
    pub own : (slot d.commit.version d.commit.site).digest ≡ D p.digest itself (h d)
    pub told : Told p.digest S (h d)
    pub long : length d.commit.version ≡ p.size

  -- the committed version fits the history before
  pub start : (ds : List Completion) (d : Completion) → Accepted p ds d → (v : View p h ds d) → ((o : Completion) → o ∈ ds → Good o) → Walked (from_reply d.reply) v.before
  start ds d a v good = go v.from
    where
      go : ((d.reply.version ≡ zeros p.size) × (v.before ≡ []))
          ⊎ ((o : Completion) × (o ∈ ds) × (o.commit.site ≡ d.reply.committer) × (o.commit.version ≡ d.reply.version) × (h o ≡ v.before))
          → Walked (from_reply d.reply) v.before
      go (inl (z, e)) = record {
        tracks = record {
          running =
              ap (λ (u : List Slot). (slot u d.reply.committer).digest) z ∙ ap (λ (s : Slot). s.digest) (slot_zeros p.size d.reply.committer)
              ∙ ap (D p.digest itself) (sym e);
          fits = subst₂ (Fits p.digest itself) (sym z) (sym e) (fits_zeros p.digest itself p.size);
          long = a.long;
        };
        told = subst (Told p.digest S) (sym e) tt;
      }
      go (inr (o, m, s, u, e)) =
          let g = good o m in
          record {
            tracks = record {
              running = sym (λ k. (slot (u k) (s k)).digest) ∙ g.own ∙ ap (D p.digest itself) e;
              fits = subst₂ (Fits p.digest itself) u e g.fits;
              long = a.long;
            };
            told = subst (Told p.digest S) e g.told;
          }

  good_newest : (ds : List Completion) (d : Completion) → Accepted p ds d → View p h ds d → ((o : Completion) → o ∈ ds → Good o)
      → ((x : List ℕ) → x ∈ all_links p.digest d.commit.site d.reply → x ∈ S) → Good d
  good_newest ds d a v good sub =
      let i = d.commit.site in
      let w = from_reply d.reply in
      let es = d.reply.entries in
      let all = links p.digest w es in
      let last : link (rise_all p.digest w es).digest i ∈ S = sub _ (in_right _ all _ (inl refl)) in
      let k = walk_one (rise_all p.digest w es) (onto es v.before) i a.site last
      (walk_all w v.before es a.members (λ x m. sub x (in_left x all _ m)) (start ds d a v good)) in
      let fits : Fits p.digest itself d.commit.version (h d) = subst₂ (Fits p.digest itself) (sym a.version) (sym v.whole) k.tracks.fits in
      record {
        fits = fits;
        own = (fits i).1 ∙ ap (λ (l : List ℕ). D p.digest itself (cut itself i l)) v.whole
            ∙ ap (D p.digest itself) (cut_here itself i i (onto es v.before) refl ∙ sym v.whole);
        told = subst (Told p.digest S) (sym v.whole) k.told;
        long = ap length a.version ∙ k.tracks.long;
      }

  pub all_good : (ds : List Completion) → Chain p ds → Views p h ds → Spread p.digest S ds → (d : Completion) → d ∈ ds → Good d
  all_good [] chain views sub d m = absurd m
  all_good (o ∷ ds) chain views sub d (inl e) =
      subst Good (sym e)
      (good_newest ds o chain.0 views.0 (all_good ds chain.1 views.1 (λ q m. sub q (inr m))) (sub o (inl refl)))
  all_good (o ∷ ds) chain views sub d (inr m) = all_good ds chain.1 views.1 (λ q m. sub q (inr m)) d m
