-- Each operation in a view history follows a finished one of its site, whose history it goes on from.
use Rattle.std.proofs.Common.{◌≡◌, ℕ, ◌<◌, ◌⊎◌, List, [], ◌∷◌, length, Option, sym, refl, ap, ◌∙◌, subst, inl, inr, arith}
use Rattle.std.proofs.lemmas.Bool.{cases_eq, eq-eqb, ne_eqb, cond-true, cond-false}
use Rattle.message.specs.Reply.{Listed}
use Rattle.version.specs.Order.{Slot}
use Rattle.rules.specs.Group.{Setup, Member, slot, zeros}
use Rattle.rules.specs.Running.{Running, from_reply, rise, links, all_links}
use Rattle.rules.specs.Finish.{Completion}
use Rattle.rules.specs.Shown.{◌∈◌, Each}
use Rattle.rules.proofs.Lists.{Ends, ends_more, cut, cut_ends, times, in_left}
use Rattle.rules.proofs.Slots.{slot_zeros, at_or_below_at}
use Rattle.rules.proofs.Fitting.{D}
use Rattle.rules.proofs.Views.Results.{Foreign}
use Rattle.rules.proofs.Views.Sites.{current}
use Rattle.rules.proofs.Views.Accepted.{Accepted, Chain, Vouched, AllVouched}
use Rattle.rules.proofs.Views.Names.{itself, onto}
use Rattle.rules.proofs.Views.Histories.{View, Views}
use Rattle.rules.proofs.Views.Digests.{Apart, Told, told_ends, no_digest, same_history}
use Rattle.rules.proofs.Views.Tracking.{Spread, Walked, walk_one, Good, start}

module _ (h : Completion → List ℕ) (R : List Completion) where
  -- a finished operation of i has this history
  abbrev pub Found : ℕ → List ℕ → Type 0
  Found i b = (o : Completion) × (o ∈ R) × (o.commit.site ≡ i) × (h o ≡ b)

  -- i has no operation in b, or b up to its last one is the history of a finished operation of i
  abbrev pub Link : ℕ → List ℕ → Type 0
  Link i b = (cut itself i b ≡ []) ⊎ Found i (cut itself i b)

  abbrev pub Linked : List ℕ → Type 0
  Linked [] = Unit {0}
  Linked (i ∷ b) = Link i b × Linked b

  -- so the front of a history with t operations of i, fewer than all, ends for i in a finished one
  pub linked_at : (i t : ℕ) (b : List ℕ) → Linked b → t < times itself i b → (f : List ℕ) × Ends f b × (times itself i f ≡ t) × Link i f
  unfolding times
  linked_at i t [] l less = absurd (omega arith)
  linked_at i t (k ∷ b) l less = let ih = linked_at i t b l.1 in grind (arith, ends_more)

foreign_cut : (i : ℕ) (es : List Listed) (b : List ℕ) → Foreign i es → cut itself i (onto es b) ≡ cut itself i b
unfolding cut
foreign_cut i [] b f = refl
foreign_cut i (e ∷ es) b f = foreign_cut i es (e.site ∷ b) f.1 ∙ cond-false _ _ _ (ne_eqb e.site i f.0)

module _ (p : Setup) (wide : (bs : List ℕ) → length (p.digest bs) ≡ 32) (h : Completion → List ℕ) (S : List (List ℕ)) (apart : Apart p.digest S) (R : List Completion) where
  module _ (ds : List Completion) (up : (o : Completion) → o ∈ ds → o ∈ R) (good : (o : Completion) → o ∈ ds → Good p h S o) where
    linked_by : (i : ℕ) (b : List ℕ) (d : Option (List ℕ)) → d ≡ D p.digest itself (cut itself i b) → Told p.digest S b → Vouched p ds i d → Link h R i b
    linked_by i b d e t (inl none) = inl (no_digest p.digest (cut itself i b) (sym e ∙ none))
    linked_by i b d e t (inr (o, m, s, same)) =
        let g = good o m in
        let below = told_ends p.digest S (cut itself i b) b (cut_ends itself i b) t in
        inr (o, up o m, s, same_history p.digest wide S apart (h o) (cut itself i b) g.told below (sym g.own ∙ same ∙ e))

    linked_entries : (w : Running) (b : List ℕ) (es : List Listed) → Each (λ (e : Listed). Member p.size e.site) es
        → ((x : List ℕ) → x ∈ links p.digest w es → x ∈ S) → AllVouched p ds w es → Walked p h S w b → Linked h R b → Linked h R (onto es b)
    linked_entries w b [] is sub vouched k l = l
    linked_entries w b (e ∷ es) is sub vouched k l =
        linked_entries (rise p.digest w e.site) (e.site ∷ b) es is.1 (λ x m. sub x (inr m)) vouched.1
        (walk_one p h S w b e.site is.0 (sub _ (inl refl)) k)
        (linked_by e.site b _ (k.tracks.fits e.site).1 k.told vouched.0, l)

    -- the version of a site's last operation
    current_vouched : (cs : List Completion) → ((o : Completion) → o ∈ cs → o ∈ ds) → (i : ℕ) → Vouched p ds i (slot (current p.size cs i) i).digest
    current_vouched [] sub i = inl (ap (λ (s : Slot). s.digest) (slot_zeros p.size i))
    current_vouched (o ∷ cs) sub i = go (cases_eq o.commit.site i) (current_vouched cs (λ q m. sub q (inr m)) i)
      where
        Now : List Slot → Type 0
        Now v = Vouched p ds i (slot v i).digest

        go : (o.commit.site ≡ i) ⊎ (o.commit.site ≡ i → ⊥) → Now (current p.size cs i) → Now (current p.size (o ∷ cs) i)
        go (inl s) ih =
            subst Now (sym (cond-true _ o.commit.version (current p.size cs i) (eq-eqb o.commit.site i s)))
            (inr (o, sub o (inl refl), s, ap (λ (k : ℕ). (slot o.commit.version k).digest) s))
        go (inr n) ih = subst Now (sym (cond-false _ o.commit.version (current p.size cs i) (ne_eqb o.commit.site i n))) ih

    linked_newest : (d : Completion) → Accepted p ds d → (v : View p h ds d) → ((o : Completion) → o ∈ ds → Linked h R (h o))
        → ((x : List ℕ) → x ∈ all_links p.digest d.commit.site d.reply → x ∈ S) → Linked h R (h d)
    linked_newest d a v old sub = subst (Linked h R) (sym v.whole) (own, linked_entries w v.before es a.members (λ x m. sub x (in_left x _ _ m)) a.vouched k (before v.from))
      where
        w : Running
        w = from_reply d.reply

        es : List Listed
        es = d.reply.entries

        i : ℕ
        i = d.commit.site

        k : Walked p h S w v.before
        k = start p h S ds d a v good

        before : ((d.reply.version ≡ zeros p.size) × (v.before ≡ []))
            ⊎ ((o : Completion) × (o ∈ ds) × (o.commit.site ≡ d.reply.committer) × (o.commit.version ≡ d.reply.version) × (h o ≡ v.before))
            → Linked h R v.before
        before (inl (z, e)) = subst (Linked h R) (sym e) tt
        before (inr (o, m, s, u, e)) = subst (Linked h R) e (old o m)

        -- the site's last operation is the last of its own before
        own : Link h R i (onto es v.before)
        own =
            let same = (at_or_below_at (current p.size ds i) d.reply.version a.above i).told a.same in
            let l = linked_by i v.before _ (same ∙ (k.tracks.fits i).1) k.told (current_vouched ds (λ o m. m) i) in
            subst (λ (b : List ℕ). (b ≡ []) ⊎ Found h R i b) (sym (foreign_cut i es v.before a.foreign)) l

  pub all_linked : (ds : List Completion) → Chain p ds → Views p h ds → Spread p.digest S ds → ((o : Completion) → o ∈ ds → o ∈ R)
      → ((o : Completion) → o ∈ ds → Good p h S o) → (d : Completion) → d ∈ ds → Linked h R (h d)
  all_linked [] chain views sub up good d m = absurd m
  all_linked (o ∷ ds) chain views sub up good d (inl e) =
      let up' : (q : Completion) → q ∈ ds → q ∈ R = λ q m. up q (inr m) in
      let good' : (q : Completion) → q ∈ ds → Good p h S q = λ q m. good q (inr m) in
      subst (λ (q : Completion). Linked h R (h q)) (sym e)
      (linked_newest ds up' good' o chain.0 views.0 (all_linked ds chain.1 views.1 (λ q m. sub q (inr m)) up' good') (sub o (inl refl)))
  all_linked (o ∷ ds) chain views sub up good d (inr m) =
      all_linked ds chain.1 views.1 (λ q k. sub q (inr k)) (λ q k. up q (inr k)) (λ q k. good q (inr k)) d m
