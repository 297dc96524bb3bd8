-- A finish keeps what holds, if no check fails.
use Rattle.std.proofs.Common.{◌≡◌, ℕ, suc, ◌+◌, ◌^◌, ◌<◌, true, ◌⊎◌, List, [], ◌∷◌, ◌++◌, map, length, Ok, Option, unwrap_or, sym, refl, ap, ◌∙◌, subst, subst₂, inl, inr, arith}
use Rattle.std.specs.Option.{option_map}
use Rattle.std.proofs.lemmas.Bool.{cases_eq}
use Rattle.message.specs.declared.code.Code.{Code}
use Rattle.message.specs.declared.code.Code.TheVariants.{Read, Write}
use Rattle.message.specs.Commit.{commit}
use Rattle.message.specs.Reply.{Response, reply}
use Rattle.message.specs.Strings.{commit_string, proof_string}
use Rattle.message.specs.Submit.{Submission}
use Rattle.message.proofs.Laws.{reply_law}
use Rattle.signature.specs.Meaning.{SchemeMeaning}
use Rattle.version.specs.Order.{Slot}
use Rattle.rules.specs.declared.phase.Phase.TheVariants.{Waiting}
use Rattle.rules.specs.declared.stop.Stop.{Stop}
use Rattle.rules.specs.Group.{Setup, SetUp, SiteState, GroupState, Member, slot, own}
use Rattle.rules.specs.Running.{result}
use Rattle.rules.specs.Checks.{Passes}
use Rattle.rules.specs.Finish.{Operation, Awaits, read_reply, Completion, completed, Finished, StoppedBy}
use Rattle.rules.specs.Taking.{Exchange, found_at, version_stored}
use Rattle.rules.specs.Runs.{OnlySite}
use Rattle.rules.specs.Shown.{◌∈◌, value_found}
use Rattle.rules.specs.History.{operation}
use Rattle.rules.specs.Law.{last_taken}
use Rattle.rules.proofs.Fitting.{Tracks}
use Rattle.rules.proofs.Keeping.{Grows}
use Rattle.rules.proofs.Lists
use Rattle.rules.proofs.Lists.{all_cons, ends_tail, cut_here, times_here, times_else, times-append}
use Rattle.rules.proofs.Reading.{reply_is}
use Rattle.rules.proofs.Honest.Begin.{sites_at, host_kept}
use Rattle.rules.proofs.Honest.Good.{Signed, Fits, Numbered, Is, GoodExchange, GoodCompletion, Awaited, Awaiting, Standing, GoodSite, Good}
use Rattle.rules.proofs.Honest.Messages.{reads_back, commit_good, version_stored_good, timestamp_fits}
use Rattle.rules.proofs.Honest.Passes.{tracks_at, finished_times, passes}
use Rattle.rules.proofs.Honest.Replies.{answer, numbered, place, fresh, submit_number, holds, reply_form}
use Rattle.rules.proofs.Honest.Stops.{never_fails}
use Rattle.rules.proofs.Honest.Stored.{version_good}
use Rattle.rules.proofs.Honest.Taken.{of, times, value_by, last_here, last_read, one_last}

module _ (p : Setup) (all : List Submission) (sch : SchemeMeaning) where
  -- timestamps have 32 bits, so no site has more operations
  times_small : (h : List Submission) → Numbered p all sch h → (k : ℕ) → times k h < 256 ^ 4
  unfolding Lists.times
  times_small [] n k = omega arith
  times_small (a ∷ h) n k = go (cases_eq a.site k) (times_small h n.1 k)
    where
      go : (a.site ≡ k) ⊎ (a.site ≡ k → ⊥) → times k h < 256 ^ 4 → times k (a ∷ h) < 256 ^ 4
      go (inl e) less =
          subst (λ (z : ℕ). times z (a ∷ h) < 256 ^ 4) e
          (omega (arith, n.0.number, times_here of a h, timestamp_fits p.size p.signature a n.0.form))
      go (inr e) less = omega (arith, less, times_else of k a h e)

  -- a site that awaits an operation, and the reply to it
  pub record Answered (written : List Submission) (s : SiteState) (bs : List ℕ) (c : Code) (r : ℕ) (x : Exchange) : Type 0 where
    pub site : GoodSite p all sch written x.submission.site s
    pub phase : s.phase ≡ Waiting c r
    pub timestamp : x.submission.timestamp ≡ own s + 1
    pub is_written : x.submission ∈ written
    pub good : GoodExchange p all sch x
    pub bytes : bs ≡ (reply p.size p.signature).put x.response

  module _
      (set_up : SetUp p)
      (written : List Submission)
      (s : SiteState)
      (bs : List ℕ)
      (c : Code)
      (r : ℕ)
      (x : Exchange)
      (w : Answered written s bs c r x)
    where
      abbrev a : Submission
      a = x.submission

      abbrev before : List Submission
      before = w.good.good.new ++ w.good.good.old

      abbrev R : Response
      R = answer p all sch x w.good

      -- the reply is read as it was written
      pub reply_read : (d : Response) → read_reply p c bs ≡ Ok d → d ≡ answer p all sch x w.good
      reply_read d e =
          reads_back (reply_law p.size p.signature) R d bs (reply_form p all sch x w.good set_up)
          (w.bytes ∙ ap (reply p.size p.signature).put w.good.answer) (reply_is p c bs d e).0

      waiting : Awaiting p all sch written a.site s w.site.upto c r
      waiting = subst (Standing p all sch written a.site s w.site.upto) w.phase w.site.standing

      pub this : Awaited p all sch s w.site.upto c r x.submission
      this = waiting.this a w.is_written refl w.timestamp

      tracks : Tracks p.digest of p.size (result p.digest s.number R) (a ∷ before)
      tracks = tracks_at p all sch x w.good written s w.site w.timestamp

      -- the site's last value is that of its last operation
      last_is : s.last ≡ option_map p.digest (last_taken a.site (a ∷ before))
      last_is =
          this.last
          ∙ ap (λ (z : Option (List ℕ)). option_map p.digest (value_by a z))
          (one_last a.site w.site.upto before all w.site.inside (ends_tail a before all (place p all sch x w.good))
          (omega (
            arith,
            finished_times p all sch x w.good written s w.site w.timestamp,
            fresh p all sch x w.good,
            times-append of a.site w.good.good.new w.good.good.old,
          )))
          ∙ ap (option_map p.digest) (sym (last_here a before))

      own_is : (slot (result p.digest s.number R).version s.number).timestamp ≡ own s + 1
      own_is =
          (tracks.fits s.number).0 ∙ ap (λ (k : ℕ). times k (a ∷ before)) w.site.number ∙ times_here of a before
          ∙ sym (submit_number p all sch x w.good) ∙ w.timestamp

      pub site_completed : GoodSite p all sch written x.submission.site (completed p s R)
      site_completed = record {
        number = w.site.number;
        upto = a ∷ before;
        inside = place p all sch x w.good;
        own = cut_here of a.site a before refl;
        long = tracks.long;
        fits = tracks.fits;
        standing = record { last = last_is; none_above = λ b m e. omega (arith, waiting.none_above b m e, own_is) };
      }

      -- the value that a read found
      found_is : (c : Code) → a.code ≡ c → c ≡ Read → value_found (found_at p w.good.store a c) ≡ last_taken a.register before
      found_is Read e f = (holds p all sch x w.good a.register).value ∙ last_read a.register a before e
      found_is Write e f = let z : ◌≡◌ {A = ℕ} 0 1 = cc in absurd (omega arith)

  module _
      (set_up : SetUp p)
      (written : List Submission)
      (m m' : SchemeMeaning)
      (s s' : SiteState)
      (t : Operation)
      (bs was is : List ℕ)
      (d : Completion)
      (x : Exchange)
      (w : Answered written s bs d.code d.register x)
      (f : Finished p m m' s s' t bs was is d)
      (member : Member p.size s.number)
      (grows : Grows m' sch)
    where
      abbrev seen : List Submission
      seen = x.submission ∷ (w.good.good.new ++ w.good.good.old)

      abbrev site : ℕ
      site = d.commit.site

      reply_is_ours : d.reply ≡ answer p all sch x w.good
      reply_is_ours = reply_read set_up written s bs d.code d.register x w d.reply f.reads

      result_tracks : Tracks p.digest of p.size (result p.digest s.number d.reply) seen
      result_tracks =
          subst (λ (z : Response). Tracks p.digest of p.size (result p.digest s.number z) seen) (sym reply_is_ours)
          (tracks set_up written s bs d.code d.register x w)

      fits : Fits p all sch d.commit.version seen
      fits = subst (λ (v : List Slot). Fits p all sch v seen) (sym f.version) result_tracks.fits

      long : length d.commit.version ≡ p.size
      long = ap length f.version ∙ result_tracks.long

      site_same : x.submission.site ≡ d.commit.site
      site_same = sym w.site.number ∙ sym f.site

      number : x.submission.timestamp ≡ suc (times x.submission.site (w.good.good.new ++ w.good.good.old))
      number = submit_number p all sch x w.good

      small : (k : ℕ) → times k seen < 256 ^ 4
      small =
          times_small seen (
            record { form = w.good.submitted.follows.form; number = number; signed = w.good.submitted.follows.signed },
            numbered p all sch x w.good,
          )

      form : (commit p.size p.signature).Good d.commit
      form =
          commit_good p.size p.signature d.commit set_up.size.1 (subst (Member p.size) (sym f.site) member)
          (version_good p.digest set_up.wide of p.size d.commit.version seen long fits small) f.commits.fits.sized f.proves.fits.sized

      -- what was signed is valid at the end of the run
      signed : (text signature : List ℕ) → m'.valid s.number text signature ≡ true → Signed p all sch site text signature
      signed text signature v = subst (λ (z : ℕ). Signed p all sch z text signature) (sym f.site) (grows s.number text signature v)

      commit_is : Is p all sch site (version_stored d.commit) seen
      commit_is = record {
        form = version_stored_good p.size p.signature d.commit form;
        own = cut_here of site x.submission (w.good.good.new ++ w.good.good.old) site_same;
        fits = fits;
        signed =
            inr (
              signed (commit_string d.commit.version) d.commit.commit_signature
                  (f.proves.stays s.number (commit_string d.commit.version) d.commit.commit_signature f.commits.holds),
              subst (λ (z : Option (List ℕ)). Signed p all sch site (proof_string (unwrap_or z [])) d.commit.proof_signature) result_tracks.running
                  (signed (proof_string (unwrap_or (result p.digest s.number d.reply).digest [])) d.commit.proof_signature f.proves.holds),
            );
      }

      pub completion_good : GoodCompletion p all sch d
      completion_good = record {
        form = form;
        submission = x.submission;
        before = w.good.good.new ++ w.good.good.old;
        inside = place p all sch x w.good;
        site = site_same;
        number = number;
        is = commit_is;
        found = λ e.
            ap (λ (z : Response). value_found z.found) reply_is_ours
            ∙ found_is set_up written s bs d.code d.register x w x.submission.code refl (asked.code ∙ e)
            ∙ ap (λ (k : ℕ). last_taken k (w.good.good.new ++ w.good.good.old)) asked.register;
      }
        where
          asked : Awaited p all sch s w.site.upto d.code d.register x.submission
          asked = this set_up written s bs d.code d.register x w

      pub site_good : GoodSite p all sch written x.submission.site s'
      site_good =
          subst (GoodSite p all sch written x.submission.site) (ap (completed p s) (sym reply_is_ours) ∙ sym f.after)
          (site_completed set_up written s bs d.code d.register x w)

  -- what a reply to its ticket is to a site of the group
  pub answered_from :
      (written : List Submission) (done : List Completion) (answered : List Exchange) (g : GroupState) (i : ℕ) (t : Operation) (bs : List ℕ) (c : Code) (r : ℕ)
      (x : Exchange) → Good p all sch written done answered g → Awaits (g.sites i) t c r → x ∈ answered
      → operation x.submission.site x.submission.timestamp ≡ t → bs ≡ (reply p.size p.signature).put x.response
      → (x.submission.site ≡ i) × Answered written (g.sites i) bs c r x
  answered_from written done answered g i t bs c r x good awaits given ticket bytes =
      let site_is : x.submission.site ≡ i = ap (λ (o : Operation). o.site) ticket ∙ awaits.site ∙ (good.sites i).number in
      let old = good.exchanges x given in (
        site_is,
        record {
          site = subst (λ (k : ℕ). GoodSite p all sch written k (g.sites i)) (sym site_is) (good.sites i);
          phase = awaits.phase;
          timestamp = ap (λ (o : Operation). o.timestamp) ticket ∙ awaits.timestamp;
          is_written = old.0;
          good = old.1;
          bytes = bytes;
        },
      )

  pub finish_good :
      (set_up : SetUp p) (written : List Submission) (done : List Completion) (answered : List Exchange) (g g' : GroupState) (i : ℕ) (t : Operation)
      (bs was is : List ℕ) (d : Completion) (x : Exchange) → Member p.size i → OnlySite g g' i
      → Finished p g.scheme g'.scheme (g.sites i) (g'.sites i) t bs was is d → x ∈ answered
      → operation x.submission.site x.submission.timestamp ≡ t → bs ≡ (reply p.size p.signature).put x.response
      → Grows g'.scheme sch → Good p all sch written done answered g → Good p all sch written (d ∷ done) answered g'
  finish_good set_up written done answered g g' i t bs was is d x member o f given ticket bytes grows good = record {
    sites =
        sites_at (GoodSite p all sch written) g g' i o
        (subst (λ (k : ℕ). GoodSite p all sch written k (g'.sites i)) w.0
        (site_good set_up written g.scheme g'.scheme (g.sites i) (g'.sites i) t bs was is d x w.1 f named grows))
        (λ j n. good.sites j);
    host = host_kept p all sch (map (λ (e : Exchange). e.submission) answered) g g' i o good.host;
    submits = good.submits;
    completions =
        all_cons (GoodCompletion p all sch) d done
        (completion_good set_up written g.scheme g'.scheme (g.sites i) (g'.sites i) t bs was is d x w.1 f named grows) good.completions;
    exchanges = good.exchanges;
  }
    where
      w : (x.submission.site ≡ i) × Answered written (g.sites i) bs d.code d.register x
      w = answered_from written done answered g i t bs d.code d.register x good f.awaits given ticket bytes

      named : Member p.size (g.sites i).number
      named = subst (Member p.size) (sym (good.sites i).number) member

  -- no check of the reply fails
  pub no_stop :
      (set_up : SetUp p) (written : List Submission) (s s' : SiteState) (t : Operation) (bs was : List ℕ) (stop : Stop) (x : Exchange)
      (b : StoppedBy p sch s s' t bs was stop) → Answered written s bs b.code b.register x → ⊥
  no_stop set_up written s s' t bs was stop x b w =
      never_fails p sch s b.register b.answer
      (subst₂ (Passes p sch s) (this set_up written s bs b.code b.register x w).register
      (sym (reply_read set_up written s bs b.code b.register x w b.answer b.reads))
      (passes p all sch x w.good written s w.site w.timestamp))
      stop b.fails
