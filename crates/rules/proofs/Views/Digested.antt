-- What the operations of a run digested is among what the run digested.
use Rattle.std.proofs.Common.{ℕ, List, [], ◌∷◌, ◌++◌, Option, subst, inl, inr}
use Rattle.message.specs.Submit.{Submission}
use Rattle.rules.specs.Group.{Group}
use Rattle.rules.specs.Begin.{Request, read_of, write_of, value_of}
use Rattle.rules.specs.Running.{all_links}
use Rattle.rules.specs.Finish.{Completion}
use Rattle.rules.specs.Runs.{Event, now}
use Rattle.rules.specs.Shown.{
  ◌∈◌,
  Deed,
  began,
  completed,
  took,
  other,
  deed,
  submission_in,
  submissions,
  completion_in,
  completions,
  written_in,
  listed,
  value_found,
  digested_in,
  digested,
}
use Rattle.rules.proofs.Lists.{in_left, in_right}
use Rattle.rules.proofs.Views.Deeds.{Did, Doings}
use Rattle.rules.proofs.Views.Tracking.{Spread}
use Rattle.rules.proofs.Views.Written.{Within}

module _ (H : List ℕ → List ℕ) where
  finish_digested : (r : List Event) (d : Completion) → d ∈ completions r → (x : List ℕ) → x ∈ digested_in H (completed d) → x ∈ digested H r
  finish_digested [] d m x k = absurd m
  finish_digested (e ∷ r) d m x k = go (deed e.call) m (λ n. finish_digested r d n x k)
    where
      go : (f : Deed) → d ∈ (completion_in f ++ completions r) → (d ∈ completions r → x ∈ digested H r) → x ∈ (digested_in H f ++ digested H r)
      go (began q a) n old = in_right x (written_in q) (digested H r) (old n)
      go (completed c) (inl same) old =
          in_left x (digested_in H (completed c)) (digested H r) (subst (λ (z : Completion). x ∈ digested_in H (completed z)) same k)
      go (completed c) (inr n) old = in_right x (digested_in H (completed c)) (digested H r) (old n)
      go (took t) n old = old n
      go other n old = old n

  pub links_digested : (r : List Event) → Spread H (digested H r) (completions r)
  links_digested r d m x k = finish_digested r d m x (in_left x (all_links H d.commit.site d.reply) (listed (value_found d.reply.found)) k)

  pub found_digested : (r : List Event) (d : Completion) → d ∈ completions r → Within (digested H r) (value_found d.reply.found)
  found_digested r d m x k = finish_digested r d m x (in_right x (all_links H d.commit.site d.reply) (listed (value_found d.reply.found)) k)

request_value : (q : Request) (x : List ℕ) → x ∈ listed (value_of q) → x ∈ written_in q
request_value (read_of r) x m = m
request_value (write_of v) x m = m

pub written_digested : (G : Group) (r : List Event) → Doings G r → (a : Submission) → a ∈ submissions r → Within (digested G.setup.digest r) a.value
written_digested G [] does a m x k = absurd m
written_digested G (e ∷ r) does a m x k = go (deed e.call) does.0 m (λ n. written_digested G r does.1 a n x k)
  where
    H : List ℕ → List ℕ
    H = G.setup.digest

    go : (f : Deed) → Did G.setup (now G r) e.after f → a ∈ (submission_in f ++ submissions r) → (a ∈ submissions r → x ∈ digested H r)
        → x ∈ (digested_in H f ++ digested H r)
    go (began q b) did (inl same) old =
        let here = subst (λ (v : Option (List ℕ)). x ∈ listed v) did.value (subst (λ (z : Submission). x ∈ listed z.value) same k) in
        in_left x (written_in q) (digested H r) (request_value q x here)
    go (began q b) did (inr n) old = in_right x (written_in q) (digested H r) (old n)
    go (completed c) did n old = in_right x (digested_in H (completed c)) (digested H r) (old n)
    go (took t) did n old = old n
    go other did n old = old n
