-- The law over runs with any host.
use Rattle.std.proofs.Common.{◌≡◌, ℕ, ◌⊎◌, ◌↔◌, List, sym, refl, ap, ◌∙◌, subst₂, inl, inr}
use Rattle.version.specs.Order.{AtOrBelow}
use Rattle.rules.specs.Group.{Group, Started, slot}
use Rattle.rules.specs.Finish.{Completion}
use Rattle.rules.specs.Runs.{Event, Run}
use Rattle.rules.specs.Shown.{◌∈◌, submissions, completions, value_found, digested}
use Rattle.rules.specs.History.{Front, count, last_written}
use Rattle.rules.specs.Law.{Replays, Collision, Counts, Ordered, ReadsLast}
use Rattle.rules.proofs.Lists.{Ends}
use Rattle.rules.proofs.Views.Deeds.{Doings, doings}
use Rattle.rules.proofs.Views.Accepted.{Chain, accepted}
use Rattle.rules.proofs.Views.Names.{count_named, front_named}
use Rattle.rules.proofs.Views.Digests.{Apart, same_value, collision_or_apart}
use Rattle.rules.proofs.Views.Histories.{seen, history_seen, Views, views_from}
use Rattle.rules.proofs.Views.Tracking.{Good, all_good}
use Rattle.rules.proofs.Views.Linked.{Linked, all_linked}
use Rattle.rules.proofs.Views.Ordered.{le_as_ends}
use Rattle.rules.proofs.Views.Written.{latest, latest_within, last_written-named}
use Rattle.rules.proofs.Views.Digested.{links_digested, found_digested, written_digested}
use Rattle.rules.proofs.Views.Reads.{reads_known}

module _ (G : Group) (started : Started G) (r : List Event) (run : Run G r) (replays : Replays G r) where
  does : Doings G r
  does = doings G started r run

  -- each finished operation was accepted after those before it, its history goes on from theirs, and its version fits its history
  chain : Chain G.setup (completions r)
  chain = accepted G started r does replays

  views : Views G.setup (seen (completions r)) (completions r)
  views = views_from G.setup (seen (completions r)) (completions r) chain (λ o m. refl)

  good : (d : Completion) → d ∈ completions r → Good G.setup (seen (completions r)) (digested G.setup.digest r) d
  good = all_good G.setup (seen (completions r)) (digested G.setup.digest r) (completions r) chain views (links_digested G.setup.digest r)

  pub counts_hold : Counts G r
  counts_hold d m i is = ((good d m).fits i).0 ∙ sym (count_named i (seen (completions r) d)) ∙ ap (count i) (sym (history_seen (completions r) d))

  ordered : Apart G.setup.digest (digested G.setup.digest r) → Ordered G r
  ordered apart d o m k = (
    λ le. subst₂ Front (sym (history_seen (completions r) d)) (sym (history_seen (completions r) o)) ((front_named (h d) (h o)).0 (at.0 le)),
    λ front. at.1 ((front_named (h d) (h o)).1 (subst₂ Front (history_seen (completions r) d) (history_seen (completions r) o) front)),
  )
    where
      h : Completion → List ℕ
      h = seen (completions r)

      S : List (List ℕ)
      S = digested G.setup.digest r

      linked : (q : Completion) → q ∈ completions r → Linked h (completions r) (h q)
      linked =
          all_linked G.setup started.set_up.wide h S apart (completions r) (completions r) chain views (links_digested G.setup.digest r) (λ q n. n) good

      at : AtOrBelow d.commit.version o.commit.version ↔ Ends (h d) (h o)
      at = le_as_ends G.setup started.set_up.wide h S apart (completions r) chain good linked d o m k

  reads_last : Apart G.setup.digest (digested G.setup.digest r) → ReadsLast G r
  reads_last apart d m code =
      same ∙ ap (latest (submissions r) j) ((good d m).fits j).0 ∙ sym (last_written-named (submissions r) j (seen (completions r) d))
      ∙ ap (last_written (submissions r) j) (sym (history_seen (completions r) d))
    where
      H : List ℕ → List ℕ
      H = G.setup.digest

      j : ℕ
      j = d.register

      t : ℕ
      t = (slot d.commit.version j).timestamp

      same : value_found d.reply.found ≡ latest (submissions r) j t
      same =
          same_value H started.set_up.wide (digested H r) apart (value_found d.reply.found) (latest (submissions r) j t) (found_digested H r d m)
          (latest_within (digested H r) (submissions r) (written_digested G r does) j t) (reads_known G started r does replays d m code).last

  pub views_hold : Collision G r ⊎ (Ordered G r × ReadsLast G r)
  views_hold = go (collision_or_apart G r)
    where
      go : Collision G r ⊎ Apart G.setup.digest (digested G.setup.digest r) → Collision G r ⊎ (Ordered G r × ReadsLast G r)
      go (inl c) = inl c
      go (inr apart) = inr (ordered apart, reads_last apart)
