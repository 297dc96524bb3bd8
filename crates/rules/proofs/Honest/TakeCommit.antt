-- Taking a commit keeps what holds.
use Rattle.std.proofs.Common.{◌≡◌, ℕ, suc, ◌+◌, ◌<◌, ◌≤◌, true, false, ◌⊎◌, List, ◌∷◌, ◌++◌, map, Ok, sym, refl, ap, ◌∙◌, subst, inl, inr, arith}
use Rattle.std.proofs.lemmas.Bool.{cases_eq, cases_lt, cond_both, and_from, and_parts, both_ways}
use Rattle.octets.specs.Field.{read}
use Rattle.message.specs.Commit.{Commitment, commit}
use Rattle.message.specs.Slots.{StoredValue, StoredVersion, version_slot}
use Rattle.message.specs.Submit.{Submission}
use Rattle.message.proofs.Laws.{commit_law}
use Rattle.signature.specs.Meaning.{SchemeMeaning}
use Rattle.store.specs.Meaning.{StoreMeaning}
use Rattle.rules.specs.Group.{Setup, SiteState, HostState, GroupState, slot}
use Rattle.rules.specs.Finish.{Completion}
use Rattle.rules.specs.Taking.{Exchange, value_at, version_at, own_at, after_last, nowhere_below, somewhere_above, leads, version_stored, TookCommit}
use Rattle.rules.specs.Runs.{OnlyHost}
use Rattle.rules.specs.Shown.{◌∈◌}
use Rattle.rules.proofs.Lists.{Ends, ends_refl, ends_trans, times-append, times_ends, past_cut, past_new, cut_ends, cut_same, cut_skip, cut_new, one_cut}
use Rattle.rules.proofs.Honest.Good.{Is, Holds, GoodHost, GoodCompletion, GoodSite, Good}
use Rattle.rules.proofs.Honest.Leads.{nowhere_from, somewhere_find, somewhere_from}
use Rattle.rules.proofs.Honest.Messages.{reads_back, committer_of, version_stored_good}
use Rattle.rules.proofs.Honest.Stored.{value_kept, version_here, version_else}
use Rattle.rules.proofs.Honest.Taken.{of, times, cut, past, entries_of, after_past}
use Rattle.rules.proofs.Honest.TakeSubmit.{in_map}

module _ (p : Setup) (all : List Submission) (sch : SchemeMeaning) where
  -- a commit that was written: its version is after the history `upto`
  record Written (c : Commitment) : Type 0 where
    form : (commit p.size p.signature).Good c
    upto : List Submission
    inside : Ends upto all
    is : Is p all sch c.site (version_stored c) upto

  read_written :
      (done : List Completion) (bs : List ℕ) (c : Commitment) → ((d : Completion) → d ∈ done → GoodCompletion p all sch d)
      → bs ∈ map (λ (d : Completion). (commit p.size p.signature).put d.commit) done → read (commit p.size p.signature) bs ≡ Ok c
      → Written c
  read_written done bs c good m r =
      let w = in_map (λ (d : Completion). (commit p.size p.signature).put d.commit) bs done m in
      let g = good w.0 w.1 in
      subst Written (sym (reads_back (commit_law p.size p.signature) w.0.commit c bs g.form w.2 r))
      (record { form = g.form; upto = g.submission ∷ g.before; inside = g.inside; is = g.is })

  module _
      (taken : List Submission)
      (h h' : HostState)
      (m m' : StoreMeaning)
      (bs : List ℕ)
      (c : Commitment)
      (ho : GoodHost p all sch taken h m)
      (t : TookCommit p h h' m m' bs c)
      (w : Written c)
      (inside : Ends taken all)
    where
      abbrev i : ℕ
      i = c.site

      abbrev u : List Submission
      u = w.upto

      abbrev lead : StoredVersion
      lead = version_at p m h.committer

      count : (slot c.version i).timestamp ≡ times i taken
      count = t.next.last ∙ (ho.values i).timestamp

      -- the commit is of its site's last operation that was taken
      cut_is : u ≡ cut i taken
      cut_is = sym w.is.own ∙ one_cut of i u taken all w.inside inside (sym (w.is.fits i).0 ∙ count)

      cut_split : u ≡ cut i (ho.new ++ ho.old)
      cut_split = cut_is ∙ ap (cut i) (sym ho.split)

      parts : times i taken ≡ times i ho.new + times i ho.old
      parts = ap (times i) (sym ho.split) ∙ times-append of i ho.new ho.old

      -- it stands before the list, or in it
      below : times i ho.new ≡ 0 → Ends u ho.old
      below e = subst (λ (z : List Submission). Ends z ho.old) (sym (cut_split ∙ cut_skip of i ho.new ho.old e)) (cut_ends of i ho.old)

      above : 1 ≤ times i ho.new → Ends ho.old u
      above e = (cut i ho.new, sym (cut_split ∙ cut_new of i ho.new ho.old e))

      -- it leads exactly if it stands in the list
      lead_in : leads c.version lead.version ≡ true → 1 ≤ times i ho.new
      lead_in l =
          go (cases_lt 0 (times i ho.new))
          (somewhere_find c.version lead.version (and_parts (nowhere_below c.version lead.version) (somewhere_above c.version lead.version) l).1)
        where
          go :
              (0 < times i ho.new) ⊎ (times i ho.new ≤ 0) → (k : ℕ) × ((slot lead.version k).timestamp < (slot c.version k).timestamp)
              → 1 ≤ times i ho.new
          go (inl e) f = omega arith
          go (inr e) f =
              absurd (omega (arith, f.1, (w.is.fits f.0).0, (ho.lead.fits f.0).0, times_ends of f.0 u ho.old (below (omega arith))))

      behind_in : leads c.version lead.version ≡ false → times i ho.new ≡ 0
      behind_in l = go (cases_lt 0 (times i ho.new))
        where
          go : (0 < times i ho.new) ⊎ (times i ho.new ≤ 0) → times i ho.new ≡ 0
          go (inr e) = omega arith
          go (inl e) =
              let up : Ends ho.old u = above (omega arith) in
              absurd
              (both_ways (leads c.version lead.version) l
              (and_from (nowhere_below c.version lead.version) (somewhere_above c.version lead.version)
              (nowhere_from c.version lead.version (λ k. omega (arith, (w.is.fits k).0, (ho.lead.fits k).0, times_ends of k ho.old u up)))
              (somewhere_from c.version lead.version i (w.is.form.0.0.0 ∙ sym ho.lead.form.0.0.0) (omega (arith, count, parts, (ho.lead.fits i).0)))))

      -- the slots after it
      abbrev entered : List ℕ
      entered = (version_slot p.size p.signature).put (version_stored c)

      versions_at :
          (P : ℕ → StoredVersion → Type 0) → P i (version_stored c) → ((k : ℕ) → (k ≡ i → ⊥) → P k (version_at p m k)) → (k : ℕ) → P k (version_at p m' k)
      versions_at P here else k = go (cases_eq k i)
        where
          go : (k ≡ i) ⊎ (k ≡ i → ⊥) → P k (version_at p m' k)
          go (inl e) =
              subst (λ (z : ℕ). P z (version_at p m' z)) (sym e)
              (subst (P i) (sym (version_here p m m' i (version_stored c) (version_stored_good p.size p.signature c w.form) t.entered)) here)
          go (inr n) = subst (P k) (sym (version_else p m m' i entered t.entered k n)) (else k n)

      values : (k : ℕ) → Holds p all sch k (value_at p m' k) taken
      values k = subst (λ (v : StoredValue). Holds p all sch k v taken) (sym (value_kept p m m' i entered t.entered k)) (ho.values k)

      recent : (k : ℕ) → times k taken ≤ suc (own_at p m' k)
      recent = versions_at (λ (k : ℕ) (v : StoredVersion). times k taken ≤ suc (slot v.version k).timestamp) (omega (arith, count)) (λ k n. ho.recent k)

      versions : (b : List Submission) → Ends u b → Ends ho.old b → (k : ℕ) → (g : List Submission) × Ends g b × Is p all sch k (version_at p m' k) g
      versions b e f =
          versions_at (λ (k : ℕ) (v : StoredVersion). (g : List Submission) × Ends g b × Is p all sch k v g) (u, e, w.is)
          (λ k n. ((ho.versions k).0, ends_trans (ho.versions k).0 ho.old b (ho.versions k).1 f, (ho.versions k).2))

      lead_good : leads c.version lead.version ≡ true → GoodHost p all sch taken (record { committer = i; list = after_last i h.list }) m'
      lead_good l = record {
        old = u;
        new = past i taken;
        split = ap (λ (z : List Submission). past i taken ++ z) cut_is ∙ past_cut of i taken;
        list =
            ap (after_last i) ho.list ∙ after_past i ho.new
            ∙ ap entries_of (sym (past_new of i ho.new ho.old (lead_in l)) ∙ ap (past i) ho.split);
        numbered = ho.numbered;
        member = committer_of p.size p.signature c w.form;
        values = values;
        versions = versions u (ends_refl u) (above (lead_in l));
        recent = recent;
        lead = versions_at (λ (k : ℕ) (v : StoredVersion). k ≡ i → Is p all sch k v u) (λ e. w.is) (λ k n e. absurd (n e)) i refl;
      }

      behind_good : leads c.version lead.version ≡ false → GoodHost p all sch taken h m'
      behind_good l = record {
        old = ho.old;
        new = ho.new;
        split = ho.split;
        list = ho.list;
        numbered = ho.numbered;
        member = ho.member;
        values = values;
        versions = versions ho.old low (ends_refl ho.old);
        recent = recent;
        lead =
            versions_at (λ (k : ℕ) (v : StoredVersion). h.committer ≡ k → Is p all sch k v ho.old) same
            (λ k n e. subst (λ (z : ℕ). Is p all sch z (version_at p m z) ho.old) e ho.lead) h.committer refl;
      }
        where
          low : Ends u ho.old
          low = below (behind_in l)

          -- the committer committed nothing new
          same : h.committer ≡ i → Is p all sch i (version_stored c) ho.old
          same e =
              let own : cut i ho.old ≡ ho.old = subst (λ (z : ℕ). cut z ho.old ≡ ho.old) e ho.lead.own in
              let one : cut i ho.old ≡ cut i u =
              cut_same of i u ho.old low (omega (arith, count, parts, (w.is.fits i).0, times_ends of i u ho.old low)) in
              subst (Is p all sch i (version_stored c)) (sym w.is.own ∙ sym one ∙ own) w.is

      took_host : GoodHost p all sch taken h' m'
      took_host =
          subst (λ (z : HostState). GoodHost p all sch taken z m') (sym t.after)
          (cond_both (leads c.version lead.version) (record { committer = i; list = after_last i h.list }) h
          (λ (z : HostState). GoodHost p all sch taken z m') lead_good behind_good)

  pub take_commit_good :
      (written : List Submission) (done : List Completion) (answered : List Exchange) (x x' : GroupState) (bs : List ℕ) (c : Commitment)
      → OnlyHost x x' → TookCommit p x.host x'.host x.store x'.store bs c
      → bs ∈ map (λ (d : Completion). (commit p.size p.signature).put d.commit) done
      → Ends (map (λ (z : Exchange). z.submission) answered) all → Good p all sch written done answered x → Good p all sch written done answered x'
  take_commit_good written done answered x x' bs c o t delivered inside g = record {
    sites = λ k. subst (λ (f : ℕ → SiteState). GoodSite p all sch written k (f k)) (sym o.sites) (g.sites k);
    host =
        took_host (map (λ (z : Exchange). z.submission) answered) x.host x'.host x.store x'.store bs c g.host t
        (read_written done bs c g.completions delivered t.reads) inside;
    submits = g.submits;
    completions = g.completions;
    exchanges = g.exchanges;
  }
