-- A site that awaits a reply of our host finds that every check passes.
use Rattle.std.proofs.Common.{◌≡◌, ℕ, zero, suc, ◌+◌, ◌≤◌, true, ◌⊎◌, List, [], ◌∷◌, ◌++◌, unwrap_or, sym, refl, ap, ◌∙◌, subst, subst₂, inl, inr, arith}
use Rattle.std.specs.Option.{option_map}
use Rattle.std.proofs.lemmas.Bool.{cases_eq}
use Rattle.message.specs.declared.code.Code.{Code}
use Rattle.message.specs.declared.code.Code.TheVariants.{Read, Write}
use Rattle.message.specs.Reply.{Listed, Response}
use Rattle.message.specs.Slots.{StoredValue, StoredVersion}
use Rattle.message.specs.Strings.{submit_string, data_string, commit_string, proof_string}
use Rattle.message.specs.Submit.{Submission}
use Rattle.signature.specs.Meaning.{SchemeMeaning}
use Rattle.version.specs.Order.{Slot}
use Rattle.rules.specs.Group.{Setup, SiteState, slot, own}
use Rattle.rules.specs.Running.{Running, from_reply, rise, rise_all, result}
use Rattle.rules.specs.Checks.{SignedVersion, Proved, Follows, EntryProved, EntryPasses, EntriesPass, DataSignedAt, FoundPasses, AnswerPasses, Passes}
use Rattle.rules.specs.Taking.{Exchange, version_at, own_at, value_after, held, found_at, entry_of}
use Rattle.rules.proofs.Fitting.{D, Tracks, fits_none, fits_le}
use Rattle.rules.proofs.Lists.{Ends, ends_trans, cut_ends, cut_same, one_cut, times_ends, times_here, times_more}
use Rattle.rules.proofs.Honest.Good.{Signed, Fits, Numbered, Is, Holds, GoodExchange, GoodSite}
use Rattle.rules.proofs.Honest.Messages.{site_of, timestamp_fits}
use Rattle.rules.proofs.Honest.Replies.{answer, numbered, place, fresh, count, tracks_list, tracks_committed, tracks_result, holds, recent, proof_at}
use Rattle.rules.proofs.Honest.Taken.{of, times, cut, entries_of, last_none}

-- a list passes with one entry more
pass_snoc :
    (H : List ℕ → List ℕ) (m : SchemeMeaning) (i : ℕ) (a : Response) (w : Running) (l : List Listed) (e : Listed) → EntriesPass H m i a w l
    → EntryPasses m i a (rise_all H w l) e → EntriesPass H m i a w (l ++ (e ∷ []))
pass_snoc H m i a w [] e h k = (k, tt)
pass_snoc H m i a w (x ∷ l) e h k = (h.0, pass_snoc H m i a (rise H w x.site) l e h.1 k)

module _ (p : Setup) (all : List Submission) (sch : SchemeMeaning) where
  zero_or_signed : (k : ℕ) (v : StoredVersion) (h : List Submission) → Is p all sch k v h → SignedVersion p sch k v.version v.commit_signature
  zero_or_signed k v h is = go is.signed
    where
      go :
          (h ≡ [])
          ⊎ (Signed p all sch k (commit_string v.version) v.commit_signature
          × Signed p all sch k (proof_string (unwrap_or (D p.digest of h) [])) v.proof_signature)
          → SignedVersion p sch k v.version v.commit_signature
      go (inl e) = inl (fits_none p.digest of p.size v.version is.form.0.0.0 (subst (Fits p all sch v.version) e is.fits))
      go (inr s) = inr s.0

  proved : (k : ℕ) (v : StoredVersion) (h : List Submission) → Is p all sch k v h → Proved sch k (D p.digest of h) v.proof_signature
  proved k v [] is = tt
  proved k v (x ∷ h) is = go is.signed
    where
      go :
          (x ∷ h ≡ [])
          ⊎ (Signed p all sch k (commit_string v.version) v.commit_signature
          × Signed p all sch k (proof_string (unwrap_or (D p.digest of (x ∷ h)) [])) v.proof_signature)
          → Proved sch k (D p.digest of (x ∷ h)) v.proof_signature
      go (inl e) = let z : ◌≡◌ {A = ℕ} 0 1 = cc in absurd (omega arith)
      go (inr s) = s.1

  module _ (x : Exchange) (g : GoodExchange p all sch x) where
    abbrev a : Submission
    a = x.submission

    abbrev R : Response
    R = answer p all sch x g

    abbrev old : List Submission
    old = g.good.old

    -- an entry is its site's next operation after the one that its version slot has
    entry_passes :
        (i : ℕ) (b : Submission) (new : List Submission) (w : Running) → Tracks p.digest of p.size w (new ++ old)
        → Numbered p all sch (b ∷ (new ++ old)) → ((k : ℕ) → times k (b ∷ (new ++ old)) ≤ suc (own_at p g.store k)) → (b.site ≡ i → ⊥)
        → EntryPasses sch i R w (entry_of b)
    entry_passes i b new w t n few other = (here, other, record { below = omega (arith, stamp, timestamp_fits p.size p.signature b n.0.form); signed = signed })
      where
        stamp : b.timestamp ≡ (slot w.version b.site).timestamp + 1
        stamp = omega (arith, n.0.number, (t.fits b.site).0)

        signed : sch.valid b.site (submit_string b.code b.register ((slot w.version b.site).timestamp + 1)) b.submit_signature ≡ true
        signed = subst (λ (z : ℕ). sch.valid b.site (submit_string b.code b.register z) b.submit_signature ≡ true) stamp n.0.signed

        before : List Submission
        before = (g.good.versions b.site).0

        is : Is p all sch b.site (version_at p g.store b.site) before
        is = (g.good.versions b.site).2

        same : cut b.site (new ++ old) ≡ before
        same =
            cut_same of b.site before (new ++ old) (ends_trans before old (new ++ old) (g.good.versions b.site).1 (new, refl))
            (omega (
              arith,
              few b.site,
              times_here of b (new ++ old),
              (is.fits b.site).0,
              times_ends of b.site before old (g.good.versions b.site).1,
              times_more of b.site new old,
            ))
            ∙ is.own

        here : EntryProved sch i R w (entry_of b)
        here =
            subst₂ (Proved sch b.site) (sym ((t.fits b.site).1 ∙ ap (D p.digest of) same))
            (sym (proof_at (λ k. (version_at p g.store k).proof_signature) p.size b.site (site_of p.size p.signature b n.0.form)))
            (proved b.site (version_at p g.store b.site) before is)

    entries_pass :
        (i : ℕ) (new : List Submission) → Numbered p all sch (new ++ old) → ((k : ℕ) → times k (new ++ old) ≤ suc (own_at p g.store k))
        → times i new ≡ 0 → EntriesPass p.digest sch i R (from_reply R) (entries_of new)
    entries_pass i [] n few z = tt
    entries_pass i (b ∷ new) n few z =
        pass_snoc p.digest sch i R (from_reply R) (entries_of new) (entry_of b)
        (entries_pass i new n.1 (λ k. omega (arith, few k, times_more of k (b ∷ []) (new ++ old))) (omega (arith, z, times_more of i (b ∷ []) new)))
        (entry_passes i b new (rise_all p.digest (from_reply R) (entries_of new))
        (tracks_list p all sch new old (from_reply R) n.1 (tracks_committed p all sch x g)) n few
        (λ e. omega (arith, z, times_here of b new, ap (λ (k : ℕ). times k (b ∷ new)) e)))

    -- what a read finds: `seen` is the history with the read itself
    module _ (v : List Slot) (fits : Fits p all sch v (x.submission ∷ (g.good.new ++ g.good.old))) where
      abbrev j : ℕ
      j = x.submission.register

      abbrev seen : List Submission
      seen = x.submission ∷ (g.good.new ++ g.good.old)

      abbrev version : StoredVersion
      version = version_at p g.store x.submission.register

      abbrev value : StoredValue
      value = value_after p g.store x.submission x.submission.register

      abbrev owned : List Submission
      owned = (g.good.versions x.submission.register).0

      owner : Is p all sch j version owned
      owner = (g.good.versions j).2

      held_by : Holds p all sch j value seen
      held_by = holds p all sch x g j

      data_signed : (t : ℕ) → value.timestamp ≡ t → DataSignedAt p sch R v j (held version value) t
      data_signed zero e = held_by.value ∙ last_none j seen (sym held_by.timestamp ∙ e)
      data_signed (suc t) e = go held_by.signed
        where
          go :
              (times j seen ≡ 0) ⊎ Signed p all sch j (data_string value.timestamp (option_map p.digest value.value)) value.data_signature
              → DataSignedAt p sch R v j (held version value) (suc t)
          go (inl z) = absurd (omega (arith, z, e, held_by.timestamp))
          go (inr s) = subst (λ (z : ℕ). Signed p all sch j (data_string z (option_map p.digest value.value)) value.data_signature) e s

      stamps : ((slot version.version j).timestamp ≡ value.timestamp) ⊎ ((slot version.version j).timestamp + 1 ≡ value.timestamp)
      stamps = go (cases_eq (slot version.version j).timestamp value.timestamp)
        where
          low : times j owned ≤ times j seen
          low = times_ends of j owned seen (ends_trans owned old seen (g.good.versions j).1 (a ∷ g.good.new, refl))

          go :
              ((slot version.version j).timestamp ≡ value.timestamp) ⊎ ((slot version.version j).timestamp ≡ value.timestamp → ⊥)
              → ((slot version.version j).timestamp ≡ value.timestamp) ⊎ ((slot version.version j).timestamp + 1 ≡ value.timestamp)
          go (inl e) = inl e
          go (inr n) = inr (omega (arith, n, low, recent p all sch x g j, held_by.timestamp, (owner.fits j).0))

      found_passes : FoundPasses p sch R v j (held version value)
      found_passes = record {
        owner = zero_or_signed j version owned owner;
        value = data_signed value.timestamp refl;
        within = record {
          below =
              fits_le p.digest of version.version R.version owned old (owner.form.0.0.0 ∙ sym g.good.lead.form.0.0.0) owner.fits
              g.good.lead.fits (g.good.versions j).1;
          same = held_by.timestamp ∙ sym (fits j).0;
        };
        recent = stamps;
      }

    -- the site that awaits the reply
    module _
        (written : List Submission)
        (s : SiteState)
        (site : GoodSite p all sch written x.submission.site s)
        (awaited : x.submission.timestamp ≡ own s + 1)
      where
        pub tracks_at : Tracks p.digest of p.size (result p.digest s.number R) (x.submission ∷ (g.good.new ++ g.good.old))
        tracks_at =
            subst (λ (i : ℕ). Tracks p.digest of p.size (result p.digest i R) (a ∷ (g.good.new ++ g.good.old))) (sym site.number)
            (tracks_result p all sch x g)

        -- as many operations of the site were committed as it had finished
        pub finished_times : times x.submission.site site.upto ≡ times x.submission.site g.good.old
        finished_times =
            let e : times s.number site.upto ≡ times a.site site.upto = ap (λ (k : ℕ). times k site.upto) site.number in
            omega (arith, e, awaited, (site.fits s.number).0, count p all sch x g)

        old_inside : Ends old all
        old_inside = ends_trans old (a ∷ (g.good.new ++ old)) all (a ∷ g.good.new, refl) (place p all sch x g)

        before : Ends site.upto old
        before =
            subst (λ (z : List Submission). Ends z old)
            (one_cut of a.site old site.upto all old_inside site.inside (sym finished_times) ∙ site.own) (cut_ends of a.site old)

        follows : Follows s R
        follows = record {
          above =
              fits_le p.digest of s.version R.version site.upto old (site.long ∙ sym g.good.lead.form.0.0.0) site.fits
              g.good.lead.fits before;
          same =
              subst (λ (i : ℕ). (slot s.version i).timestamp ≡ (slot R.version i).timestamp) (sym site.number)
              ((site.fits a.site).0 ∙ finished_times ∙ sym (g.good.lead.fits a.site).0);
        }

        answer_passes : (c : Code) → AnswerPasses p sch s x.submission.register R (found_at p g.store x.submission c)
        answer_passes Read = found_passes (result p.digest s.number R).version tracks_at.fits
        answer_passes Write = tt

        pub passes : Passes p sch s x.submission.register R
        passes = record {
          committed = zero_or_signed g.host.committer (version_at p g.store g.host.committer) old g.good.lead;
          follows = follows;
          list =
              subst (λ (l : List Listed). EntriesPass p.digest sch s.number R (from_reply R) l) (sym g.good.list)
              (entries_pass s.number g.good.new (numbered p all sch x g) few none);
          answer = answer_passes x.submission.code;
        }
          where
            few : (k : ℕ) → times k (g.good.new ++ old) ≤ suc (own_at p g.store k)
            few k = subst (λ (z : List Submission). times k z ≤ suc (own_at p g.store k)) (sym g.good.split) (g.good.recent k)

            none : times s.number g.good.new ≡ 0
            none = ap (λ (k : ℕ). times k g.good.new) site.number ∙ fresh p all sch x g
