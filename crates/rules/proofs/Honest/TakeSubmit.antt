-- Taking a submit keeps what holds.
use Rattle.std.proofs.Common.{◌≡◌, ℕ, suc, ◌≤◌, eqb, ◌⊎◌, List, [], ◌∷◌, ◌++◌, map, Ok, Option, sym, refl, ap, ◌∙◌, subst, inl, inr, arith}
use Rattle.std.specs.Option.{option_map}
use Rattle.std.proofs.lemmas.Bool.{cases_eq, cond_both, eqb-true, eqb-false}
use Rattle.octets.specs.Field.{read}
use Rattle.message.specs.Reply.{Listed}
use Rattle.message.specs.Slots.{StoredValue, value_slot, StoredVersion}
use Rattle.message.specs.Strings.{data_string}
use Rattle.message.specs.Submit.{Submission, submit}
use Rattle.message.proofs.Laws.{submit_law}
use Rattle.signature.specs.Meaning.{SchemeMeaning}
use Rattle.store.specs.Meaning.{StoreMeaning}
use Rattle.rules.specs.Group.{Setup, SiteState, HostState, GroupState, slot}
use Rattle.rules.specs.Finish.{Completion}
use Rattle.rules.specs.Taking.{Exchange, value_at, version_at, own_at, NextSubmit, stored, value_after, entry_of, TookSubmit}
use Rattle.rules.specs.Runs.{OnlyHost}
use Rattle.rules.specs.Shown.{◌∈◌}
use Rattle.rules.specs.Law.{last_taken}
use Rattle.rules.proofs.Lists.{Ends, all_cons, ends_tail, times_here, times_else}
use Rattle.rules.proofs.Honest.Good.{Signed, Is, Holds, GoodSubmit, GoodHost, GoodExchange, GoodSite, Good}
use Rattle.rules.proofs.Honest.Messages.{reads_back, stored_good}
use Rattle.rules.proofs.Honest.Stored.{value_here, value_else, version_kept}
use Rattle.rules.proofs.Honest.Taken.{of, times, value_by, last_here, last_else, one_last}

pub in_map : {A B : Type 0} (f : A → B) (b : B) (l : List A) → b ∈ map f l → (a : A) × (a ∈ l) × (b ≡ f a)
in_map f b [] m = absurd m
in_map f b (x ∷ l) (inl e) = (x, inl refl, e)
in_map f b (x ∷ l) (inr m) = let w = in_map f b l m in (w.0, inr w.1, w.2)

module _ (p : Setup) (all : List Submission) (sch : SchemeMeaning) where
  holds_else :
      (k : ℕ) (v : StoredValue) (a : Submission) (h : List Submission) → (a.site ≡ k → ⊥) → Holds p all sch k v h → Holds p all sch k v (a ∷ h)
  holds_else k v a h n o = record {
    form = o.form;
    timestamp = o.timestamp ∙ sym (times_else of k a h n);
    value = o.value ∙ sym (last_else k a h n);
    signed =
        subst (λ (z : ℕ). (z ≡ 0) ⊎ Signed p all sch k (data_string v.timestamp (option_map p.digest v.value)) v.data_signature)
        (sym (times_else of k a h n)) o.signed;
  }

  -- the submit a is its site's next one, and the one before it is committed
  module _
      (taken : List Submission)
      (h : HostState)
      (m : StoreMeaning)
      (a : Submission)
      (ho : GoodHost p all sch taken h m)
      (next : NextSubmit p m a)
      (sub : GoodSubmit p all sch a)
      (inside : Ends (a ∷ taken) all)
    where
      pub number : a.timestamp ≡ suc (times a.site taken)
      number = omega (arith, next.next, (ho.values a.site).timestamp)

      -- its site had finished all that was taken of it before
      same : last_taken a.site sub.before ≡ (value_at p m a.site).value
      same =
          one_last a.site sub.before taken all sub.inside (ends_tail a taken all inside) (omega (arith, number, sub.follows.number))
          ∙ sym (ho.values a.site).value

      here : Holds p all sch a.site (stored p m a) (a ∷ taken)
      here = record {
        form = stored_good p m a sub.follows.form (ho.values a.site).form;
        timestamp = number ∙ sym (times_here of a taken);
        value = ap (value_by a) (ho.values a.site).value ∙ sym (last_here a taken);
        signed =
            inr
            (subst (λ (z : Option (List ℕ)). Signed p all sch a.site (data_string a.timestamp (option_map p.digest (value_by a z))) a.data_signature) same
            sub.data_signed);
      }

      pub holds_after : (k : ℕ) → Holds p all sch k (value_after p m a k) (a ∷ taken)
      holds_after k =
          cond_both (eqb a.site k) (stored p m a) (value_at p m k) (λ (v : StoredValue). Holds p all sch k v (a ∷ taken))
          (λ e. subst (λ (z : ℕ). Holds p all sch z (stored p m a) (a ∷ taken)) (eqb-true a.site k e) here)
          (λ e. holds_else k (value_at p m k) a taken (eqb-false a.site k e) (ho.values k))

      pub recent_after : (k : ℕ) → times k (a ∷ taken) ≤ suc (own_at p m k)
      recent_after k = go (cases_eq a.site k)
        where
          go : (a.site ≡ k) ⊎ (a.site ≡ k → ⊥) → times k (a ∷ taken) ≤ suc (own_at p m k)
          go (inl e) =
              subst (λ (z : ℕ). times z (a ∷ taken) ≤ suc (own_at p m z)) e
              (omega (arith, times_here of a taken, next.done, (ho.values a.site).timestamp))
          go (inr n) = omega (arith, times_else of k a taken n, ho.recent k)

  -- and it is taken
  module _
      (taken : List Submission)
      (h h' : HostState)
      (m m' : StoreMeaning)
      (bs was is : List ℕ)
      (x : Exchange)
      (ho : GoodHost p all sch taken h m)
      (t : TookSubmit p h h' m m' bs was is x)
      (sub : GoodSubmit p all sch x.submission)
      (inside : Ends (x.submission ∷ taken) all)
    where
      abbrev a : Submission
      a = x.submission

      abbrev entered : List ℕ
      entered = (value_slot p.signature).put (stored p m a)

      value_now : (k : ℕ) → value_after p m a k ≡ value_at p m' k
      value_now k =
          cond_both (eqb a.site k) (stored p m a) (value_at p m k) (λ (v : StoredValue). v ≡ value_at p m' k)
          (λ e.
          subst (λ (z : ℕ). stored p m a ≡ value_at p m' z) (eqb-true a.site k e)
          (sym (value_here p m m' a.site (stored p m a) (stored_good p m a sub.follows.form (ho.values a.site).form) t.entered)))
          (λ e. sym (value_else p m m' a.site entered t.entered k (λ f. eqb-false a.site k e (sym f))))

      kept : (k : ℕ) → version_at p m k ≡ version_at p m' k
      kept k = sym (version_kept p m m' a.site entered t.entered k)

      took_host : GoodHost p all sch (a ∷ taken) h' m'
      took_host = subst (λ (z : HostState). GoodHost p all sch (a ∷ taken) z m') (sym t.after) (record {
        old = ho.old;
        new = a ∷ ho.new;
        split = ap (λ (z : List Submission). a ∷ z) ho.split;
        list = ap (λ (z : List Listed). z ++ (entry_of a ∷ [])) ho.list;
        numbered =
            (record { form = sub.follows.form; number = number taken h m a ho t.next sub inside; signed = sub.follows.signed }, ho.numbered);
        member = ho.member;
        values =
            λ k. subst (λ (v : StoredValue). Holds p all sch k v (a ∷ taken)) (value_now k) (holds_after taken h m a ho t.next sub inside k);
        versions = λ k. ((ho.versions k).0, (ho.versions k).1, subst (λ (v : StoredVersion). Is p all sch k v (ho.versions k).0) (kept k) (ho.versions k).2);
        recent =
            λ k.
            subst (λ (v : StoredVersion). times k (a ∷ taken) ≤ suc (slot v.version k).timestamp) (kept k)
            (recent_after taken h m a ho t.next sub inside k);
        lead = subst (λ (v : StoredVersion). Is p all sch h.committer v ho.old) (kept h.committer) ho.lead;
      })

      took_exchange : GoodExchange p all sch x
      took_exchange = record {
        before = taken;
        inside = inside;
        host = h;
        store = m;
        good = ho;
        submitted = sub;
        next = t.next;
        free = t.free;
        answer = t.answer;
      }

  -- a submit that was taken is one that its site wrote
  read_written :
      (written : List Submission) (bs : List ℕ) (a : Submission) → ((b : Submission) → b ∈ written → GoodSubmit p all sch b)
      → bs ∈ map (submit p.size p.signature).put written → read (submit p.size p.signature) bs ≡ Ok a → a ∈ written
  read_written written bs a good m r =
      let w = in_map (submit p.size p.signature).put bs written m in
      subst (λ (z : Submission). z ∈ written)
      (sym (reads_back (submit_law p.size p.signature) w.0 a bs (good w.0 w.1).follows.form w.2 r)) w.1

  pub take_submit_good :
      (written : List Submission) (done : List Completion) (answered : List Exchange) (x x' : GroupState) (bs was is : List ℕ) (e : Exchange)
      → OnlyHost x x' → TookSubmit p x.host x'.host x.store x'.store bs was is e → bs ∈ map (submit p.size p.signature).put written
      → Ends (e.submission ∷ map (λ (z : Exchange). z.submission) answered) all → Good p all sch written done answered x
      → Good p all sch written done (e ∷ answered) x'
  take_submit_good written done answered x x' bs was is e o t delivered inside g = record {
    sites = λ k. subst (λ (f : ℕ → SiteState). GoodSite p all sch written k (f k)) (sym o.sites) (g.sites k);
    host = took_host taken x.host x'.host x.store x'.store bs was is e g.host t sub inside;
    submits = g.submits;
    completions = g.completions;
    exchanges =
        all_cons (λ (z : Exchange). (z.submission ∈ written) × GoodExchange p all sch z) e answered
        (is_written, took_exchange taken x.host x'.host x.store x'.store bs was is e g.host t sub inside) g.exchanges;
  }
    where
      taken : List Submission
      taken = map (λ (z : Exchange). z.submission) answered

      is_written : e.submission ∈ written
      is_written = read_written written bs e.submission g.submits delivered t.reads

      sub : GoodSubmit p all sch e.submission
      sub = g.submits e.submission is_written
