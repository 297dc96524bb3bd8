-- A finished read found what the owner had last written at the timestamp in the reader's version.
use Rattle.std.proofs.Common.{◌≡◌, ℕ, zero, suc, ◌^◌, ◌<◌, List, [], ◌∷◌, ◌++◌, Some, None, Option, sym, ap, ◌∙◌, subst, inl, inr, arith}
use Rattle.std.specs.Option.{option_map}
use Rattle.message.specs.declared.code.Code.{Code}
use Rattle.message.specs.declared.code.Code.TheVariants.{Read}
use Rattle.message.specs.Reply.{Held, Response}
use Rattle.message.specs.Submit.{Submission}
use Rattle.version.specs.Order.{Slot}
use Rattle.rules.specs.Group.{SiteState, GroupState, Group, Started, slot}
use Rattle.rules.specs.Running.{from_reply, result}
use Rattle.rules.specs.Checks.{AnswerPasses, DataSignedAt}
use Rattle.rules.specs.Finish.{Completion}
use Rattle.rules.specs.Runs.{Event, now}
use Rattle.rules.specs.Shown.{
  ◌∈◌,
  Each,
  Deed,
  began,
  completed,
  took,
  other,
  deed,
  submission_in,
  submissions,
  completion_in,
  completions,
  signed,
  version_checked,
  entries_checked,
  data_checked,
  found_checked,
  checked,
  value_found,
}
use Rattle.rules.specs.Law.{Replays}
use Rattle.rules.proofs.Reading.{FoundFits}
use Rattle.rules.proofs.Views.Deeds.{numbered, Did, Completes, Doings}
use Rattle.rules.proofs.Views.Accepted.{each_right}
use Rattle.rules.proofs.Views.Begun.{known_step, wide_digest, data_signed}
use Rattle.rules.proofs.Views.Written.{Known}

module _ (G : Group) (started : Started G) where
  -- what a read found
  abbrev KnownRead : List Submission → Completion → Type 0
  KnownRead subs d =
      Known G.setup.digest subs d.register (slot d.commit.version d.register).timestamp (option_map G.setup.digest (value_found d.reply.found))

  read_one : (r : List Event) → Doings G r → (x' : GroupState) (d : Completion) → Completes G.setup (now G r) x' d.commit.site d
      → Each (λ s. s ∈ signed G r) (checked G.setup.digest d) → d.code ≡ Read → KnownRead (submissions r) d
  read_one r does x' d c all code = go d.reply.found (subst (λ (z : Code). FoundFits n g z d.reply.found) code c.fits.found) c.passes.answer founds
    where
      n : ℕ
      n = G.setup.size

      g : ℕ
      g = G.setup.signature

      H : List ℕ → List ℕ
      H = G.setup.digest

      j : ℕ
      j = d.register

      a : Response
      a = d.reply

      s : SiteState
      s = numbered d.commit.site ((now G r).sites d.commit.site)

      v : List Slot
      v = (result H d.commit.site a).version

      founds : Each (λ s. s ∈ signed G r) (found_checked H j a.found)
      founds =
          each_right (λ s. s ∈ signed G r) (entries_checked H a (from_reply a) a.entries) _
          (each_right (λ s. s ∈ signed G r) (version_checked a.committer a.version a.commit_signature) _ all)

      at : (h : Held) (t : ℕ) → t < 256 ^ 4 → DataSignedAt G.setup (now G r).scheme a v j h t → Each (λ s. s ∈ signed G r) (data_checked H j h t)
          → Known H (submissions r) j t (option_map H h.value)
      at h zero less none checks = record { begun = omega arith; last = ap (option_map H) none }
      at h (suc t) less valid checks = data_signed G started j (suc t) (option_map H h.value) h.data_signature less (wide_digest G started h.value) r does checks.0

      go : (o : Option Held) → FoundFits n g Read o → AnswerPasses G.setup (now G r).scheme s j a o → Each (λ s. s ∈ signed G r) (found_checked H j o)
          → Known H (submissions r) j (slot d.commit.version j).timestamp (option_map H (value_found o))
      go None fits passes checks = absurd fits
      go (Some h) fits passes checks =
          subst (λ (t : ℕ). Known H (submissions r) j t (option_map H h.value)) (passes.within.same ∙ ap (λ (u : List Slot). (slot u j).timestamp) (sym c.version))
          (at h h.timestamp fits.1 passes.value (each_right (λ s. s ∈ signed G r) (version_checked j h.version h.commit_signature) _ checks))

  pub reads_known : (r : List Event) → Doings G r → Replays G r → (d : Completion) → d ∈ completions r → d.code ≡ Read → KnownRead (submissions r) d
  reads_known [] does replays d m code = absurd m
  reads_known (e ∷ r) does replays d m code = go (deed e.call) does.0 replays.0 m (λ k. reads_known r does.1 replays.1 d k code)
    where
      go : (k : Deed) → Did G.setup (now G r) e.after k → Each (λ d. Each (λ s. s ∈ signed G r) (checked G.setup.digest d)) (completion_in k)
          → d ∈ (completion_in k ++ completions r) → (d ∈ completions r → KnownRead (submissions r) d) → KnownRead (submission_in k ++ submissions r) d
      go (began q a) b all m old = known_step G started r does.1 e.after (began q a) b _ _ _ (old m)
      go (completed c) b all (inl same) old =
          let c' = subst (λ (z : Completion). Completes G.setup (now G r) e.after z.commit.site z) (sym same) b in
          let all' = subst (λ (z : Completion). Each (λ s. s ∈ signed G r) (checked G.setup.digest z)) (sym same) all.0 in
          read_one r does.1 e.after d c' all' code
      go (completed c) b all (inr m) old = old m
      go (took t) b all m old = old m
      go other b all m old = old m
