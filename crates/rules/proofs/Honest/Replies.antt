-- What a reply of our host says: its form, its place in the history, and the version that its site makes of it.
use Rattle.std.proofs.Common.{◌≡◌, ℕ, zero, suc, ◌+◌, ◌≤◌, List, [], ◌∷◌, ◌++◌, map, length, sym, refl, ap, ◌∙◌, subst, arith}
use Rattle.std.specs.List.{range_with_len}
use Rattle.std.proofs.lemmas.List.FromFn.{length-map-range_with_len, get_or-map-range_with_len}
use Rattle.std.proofs.lemmas.Bool.{le-leb}
use Rattle.octets.specs.Field.{GoodAll, span}
use Rattle.message.specs.declared.code.Code.{Code}
use Rattle.message.specs.declared.code.Code.TheVariants.{Read, Write}
use Rattle.message.specs.Heads.{reply_head}
use Rattle.message.specs.Reply.{Listed, Response, reply, entry, entries, found}
use Rattle.message.specs.Submit.{Submission}
use Rattle.signature.specs.Meaning.{SchemeMeaning}
use Rattle.rules.specs.Group.{Setup, SetUp, Member}
use Rattle.rules.specs.Running.{Running, from_reply, rise, rise_all, result}
use Rattle.rules.specs.Checks.{proof_of}
use Rattle.rules.specs.Taking.{Exchange, version_at, own_at, value_after, entry_of, found_at, replied}
use Rattle.rules.proofs.Fitting.{D, Tracks, tracks_rise}
use Rattle.rules.proofs.Lists.{Ends, times-append, times_ends}
use Rattle.rules.proofs.Honest.Good.{Numbered, Holds, GoodHost, GoodExchange}
use Rattle.rules.proofs.Honest.Messages.{site_good, code_good, site_of, entry_good}
use Rattle.rules.proofs.Honest.Taken.{of, times, entries_of}
use Rattle.rules.proofs.Honest.TakeSubmit.{number, holds_after, recent_after}

all_snoc : (n g : ℕ) (l : List Listed) (e : Listed) → GoodAll (entry n g) l → (entry n g).Good e → GoodAll (entry n g) (l ++ (e ∷ []))
all_snoc n g [] e h k = (k, tt)
all_snoc n g (x ∷ l) e h k = (h.0, all_snoc n g l e h.1 k)

-- each of a list made from a function of the index
counted_good : (f : ℕ → List ℕ) (g : ℕ) → ((k : ℕ) → length (f k) ≡ g) → (from count : ℕ) → GoodAll (span g) (map f (range_with_len from count))
counted_good f g h from zero = tt
counted_good f g h from (suc count) = (h from, counted_good f g h (from + 1) count)

rise_snoc : (H : List ℕ → List ℕ) (w : Running) (l : List Listed) (e : Listed) → rise_all H w (l ++ (e ∷ [])) ≡ rise H (rise_all H w l) e.site
rise_snoc H w [] e = refl
rise_snoc H w (x ∷ l) e = rise_snoc H (rise H w x.site) l e

-- a proof signature by its site
pub proof_at : (f : ℕ → List ℕ) (n k : ℕ) → Member n k → proof_of (map f (range_with_len 1 n)) k ≡ f k
proof_at f n zero is = absurd (omega arith)
proof_at f n (suc k) is = get_or-map-range_with_len f 1 n k (suc k) [] (omega arith) (omega arith)

module _ (p : Setup) (all : List Submission) (sch : SchemeMeaning) where
  entries_good : (new old : List Submission) → Numbered p all sch (new ++ old) → GoodAll (entry p.size p.signature) (entries_of new)
  entries_good [] old n = tt
  entries_good (a ∷ new) old n =
      all_snoc p.size p.signature (entries_of new) (entry_of a) (entries_good new old n.1) (entry_good p.size p.signature a n.0.form)

  -- a running version that tracks what was committed tracks the list too
  pub tracks_list :
      (new old : List Submission) (w : Running) → Numbered p all sch (new ++ old) → Tracks p.digest of p.size w old
      → Tracks p.digest of p.size (rise_all p.digest w (entries_of new)) (new ++ old)
  tracks_list [] old w n t = t
  tracks_list (a ∷ new) old w n t =
      subst (λ (z : Running). Tracks p.digest of p.size z (a ∷ (new ++ old))) (sym (rise_snoc p.digest w (entries_of new) (entry_of a)))
      (tracks_rise p.digest of p.size a (new ++ old) (rise_all p.digest w (entries_of new)) (site_of p.size p.signature a n.0.form)
      (tracks_list new old w n.1 t))

  module _ (x : Exchange) (g : GoodExchange p all sch x) where
    abbrev a : Submission
    a = x.submission

    abbrev ho : GoodHost p all sch g.before g.host g.store
    ho = g.good

    abbrev pub answer : Response
    answer = replied p g.host g.store x.submission

    pub numbered : Numbered p all sch (g.good.new ++ g.good.old)
    numbered = subst (Numbered p all sch) (sym ho.split) ho.numbered

    whole : a ∷ g.before ≡ a ∷ (ho.new ++ ho.old)
    whole = ap (λ (z : List Submission). a ∷ z) (sym ho.split)

    pub place : Ends (x.submission ∷ (g.good.new ++ g.good.old)) all
    place = subst (λ (z : List Submission). Ends z all) whole g.inside

    pub submit_number : x.submission.timestamp ≡ suc (times x.submission.site (g.good.new ++ g.good.old))
    submit_number =
        subst (λ (z : List Submission). a.timestamp ≡ suc (times a.site z)) (sym ho.split)
        (number p all sch g.before g.host g.store a ho g.next g.submitted g.inside)

    -- its site's operations before it are all committed
    pub fresh : times x.submission.site g.good.new ≡ 0
    fresh =
        let mine = ho.versions a.site in
        let parts : times a.site (ho.new ++ ho.old) ≡ times a.site ho.new + times a.site ho.old = times-append of a.site ho.new ho.old in
        omega (
          arith,
          submit_number,
          parts,
          g.next.next,
          g.next.done,
          (mine.2.fits a.site).0,
          times_ends of a.site mine.0 ho.old mine.1,
        )

    pub count : x.submission.timestamp ≡ suc (times x.submission.site g.good.old)
    count = omega (arith, submit_number, fresh, times-append of a.site ho.new ho.old)

    -- the running version, after the committed one, after the list and after the operation itself
    pub tracks_committed : Tracks p.digest of p.size (from_reply answer) g.good.old
    tracks_committed = record {
      running = (ho.lead.fits g.host.committer).1 ∙ ap (D p.digest of) ho.lead.own;
      fits = ho.lead.fits;
      long = ho.lead.form.0.0.0;
    }

    pub tracks_result : Tracks p.digest of p.size (result p.digest x.submission.site answer) (x.submission ∷ (g.good.new ++ g.good.old))
    tracks_result =
        tracks_rise p.digest of p.size a (ho.new ++ ho.old) (rise_all p.digest (from_reply answer) g.host.list)
        (site_of p.size p.signature a g.submitted.follows.form)
        (subst (λ (l : List Listed). Tracks p.digest of p.size (rise_all p.digest (from_reply answer) l) (ho.new ++ ho.old)) (sym ho.list)
        (tracks_list ho.new ho.old (from_reply answer) numbered tracks_committed))

    -- the value slot and the version slot of a site after it
    pub holds : (k : ℕ) → Holds p all sch k (value_after p g.store x.submission k) (x.submission ∷ (g.good.new ++ g.good.old))
    holds k =
        subst (Holds p all sch k (value_after p g.store a k)) whole
        (holds_after p all sch g.before g.host g.store a ho g.next g.submitted g.inside k)

    pub recent : (k : ℕ) → times k (x.submission ∷ (g.good.new ++ g.good.old)) ≤ suc (own_at p g.store k)
    recent k =
        subst (λ (z : List Submission). times k z ≤ suc (own_at p g.store k)) whole
        (recent_after p all sch g.before g.host g.store a ho g.next g.submitted g.inside k)

    -- the reply has the form of the group's replies
    found_good : (c : Code) → (found p.size p.signature c).Good (found_at p g.store a c)
    found_good Read =
        let w = (ho.versions a.register).2.form in
        let v = (holds a.register).form in
        ((w.0.0, (w.0.1.0, v.0)), refl)
    found_good Write = (tt, refl)

    pub reply_form : SetUp p → (reply p.size p.signature).Good answer
    reply_form set_up = ((head, (ho.lead.form.0.0, (ho.lead.form.0.1.0, (listed, ((length-map-range_with_len proof 1 p.size, proofs), found_good a.code))))), refl)
      where
        proof : ℕ → List ℕ
        proof k = (version_at p g.store k).proof_signature

        head : (reply_head p.size).Good (tt, (a.code, g.host.committer))
        head = (((omega arith, refl), refl), (code_good a.code, site_good p.size g.host.committer set_up.size.1 ho.member))

        listed : (entries p.size p.signature).Good g.host.list
        listed = (
          (
            (omega (arith, g.free, set_up.size.1), le-leb (length g.host.list) p.size (omega (arith, g.free))),
            (refl, subst (GoodAll (entry p.size p.signature)) (sym ho.list) (entries_good ho.new ho.old numbered)),
          ),
          refl,
        )

        proofs : GoodAll (span p.signature) (map proof (range_with_len 1 p.size))
        proofs = counted_good proof p.signature (λ k. (ho.versions k).2.form.0.1.1) 1 p.size
