-- A site's operations have different own timestamps, so each is found by its name.
use Rattle.std.proofs.Common.{◌≡◌, ℕ, ◌+◌, ◌<◌, ◌≤◌, List, [], ◌∷◌, sym, ap, ◌∙◌, inl, inr, arith}
use Rattle.version.specs.Order.{Slot}
use Rattle.rules.specs.Group.{Setup, slot}
use Rattle.rules.specs.Finish.{Completion}
use Rattle.rules.specs.Shown.{◌∈◌}
use Rattle.rules.proofs.Views.Sites.{current}
use Rattle.rules.proofs.Views.Accepted.{Accepted, Chain, own_is}

abbrev pub own_time : Completion → ℕ
own_time d = (slot d.commit.version d.commit.site).timestamp

module _ (p : Setup) where
  own_more : (ds : List Completion) (d : Completion) → Accepted p ds d → own_time d ≡ (slot (current p.size ds d.commit.site) d.commit.site).timestamp + 1
  own_more ds d a = ap (λ (s : Slot). s.timestamp) (own_is p ds d a) ∙ ap (λ (t : ℕ). t + 1) (sym a.same)

  -- no operation of a site has a later own timestamp than its last
  top : (ds : List Completion) → Chain p ds → (o : Completion) → o ∈ ds → own_time o ≤ (slot (current p.size ds o.commit.site) o.commit.site).timestamp
  top [] chain o m = absurd m
  top (d ∷ ds) chain o (inl e) = grind arith
  top (d ∷ ds) chain o (inr m) = let ih = top ds chain.1 o m in let c = own_more ds d chain.0 in grind arith

  pub own_some : (ds : List Completion) → Chain p ds → (o : Completion) → o ∈ ds → 1 ≤ own_time o
  own_some [] chain o m = absurd m
  own_some (d ∷ ds) chain o (inl e) = let c = own_more ds d chain.0 in grind arith
  own_some (d ∷ ds) chain o (inr m) = own_some ds chain.1 o m

  pub newest : (ds : List Completion) (d o : Completion) → Chain p (d ∷ ds) → o ∈ ds → o.commit.site ≡ d.commit.site → own_time o < own_time d
  newest ds d o chain m s = let c = own_more ds d chain.0 in let t = top ds chain.1 o m in grind arith

  pub once : (ds : List Completion) → Chain p ds → (d o : Completion) → d ∈ ds → o ∈ ds → d.commit.site ≡ o.commit.site → own_time d ≡ own_time o → d ≡ o
  once [] chain d o m k s t = absurd m
  once (q ∷ ds) chain d o (inl e) (inl f) s t = e ∙ sym f
  once (q ∷ ds) chain d o (inl e) (inr k) s t = let l = newest ds q o chain k in absurd (grind arith)
  once (q ∷ ds) chain d o (inr m) (inl f) s t = let l = newest ds q d chain m in absurd (grind arith)
  once (q ∷ ds) chain d o (inr m) (inr k) s t = once ds chain.1 d o m k s t
