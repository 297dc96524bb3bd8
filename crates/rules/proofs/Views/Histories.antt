-- The view histories of a run's operations, each by its sites, newest first.
use Rattle.std.proofs.Common.{◌≡◌, ℕ, Bool, true, false, cond, ◌⊎◌, List, [], ◌∷◌, refl, ap, ◌∙◌, inl, inr, arith}
use Rattle.std.proofs.lemmas.Bool.{cond-true, cond-false}
use Rattle.rules.specs.Group.{Setup, slot, zeros}
use Rattle.rules.specs.Finish.{Operation, Completion}
use Rattle.rules.specs.Shown.{◌∈◌, is_zero}
use Rattle.rules.specs.History.{operation, operation_of, same_operation, extended, extended_by, history_of, history}
use Rattle.rules.proofs.Views.Accepted.{Chain, From}
use Rattle.rules.proofs.Views.Names.{named, onto, extended_named, extended_by-named}
use Rattle.rules.proofs.Views.Once.{newest}

-- the committer's operation
abbrev commit_of : Completion → Operation
commit_of d = operation d.reply.committer (slot d.reply.version d.reply.committer).timestamp

-- the sites of the view history of the operation t
abbrev seen_of : List Completion → Operation → List ℕ
seen_of [] t = []
seen_of (d ∷ ds) t =
    cond (same_operation (operation_of d) t) (d.commit.site ∷ onto d.reply.entries (cond (is_zero d.reply.version) [] (seen_of ds (commit_of d))))
    (seen_of ds t)

abbrev pub seen : List Completion → Completion → List ℕ
seen ds d = seen_of ds (operation_of d)

history_of-seen : (ds : List Completion) (t : Operation) → history_of ds t ≡ named (seen_of ds t)
unfolding named
history_of-seen [] t = refl
history_of-seen (d ∷ ds) t = go (same_operation (operation_of d) t) (is_zero d.reply.version) (history_of-seen ds (commit_of d)) (history_of-seen ds t)
  where
    i : ℕ
    i = d.commit.site

    more : (h : List Operation) (b : List ℕ) → h ≡ named b → extended (extended_by h d.reply.entries) i ≡ named (i ∷ onto d.reply.entries b)
    more h b e =
        ap (λ (l : List Operation). extended (extended_by l d.reply.entries) i) e
        ∙ ap (λ (l : List Operation). extended l i) (extended_by-named b d.reply.entries)
        ∙ extended_named (onto d.reply.entries b) i

    go : (here none : Bool) → history_of ds (commit_of d) ≡ named (seen_of ds (commit_of d)) → history_of ds t ≡ named (seen_of ds t)
        → cond here (extended (extended_by (cond none [] (history_of ds (commit_of d))) d.reply.entries) i) (history_of ds t)
        ≡ named (cond here (i ∷ onto d.reply.entries (cond none [] (seen_of ds (commit_of d)))) (seen_of ds t))
    go true true e f = more [] [] refl
    go true false e f = more (history_of ds (commit_of d)) (seen_of ds (commit_of d)) e
    go false none e f = f

pub history_seen : (ds : List Completion) (d : Completion) → history ds d ≡ named (seen ds d)
history_seen ds d = history_of-seen ds (operation_of d)

same_itself : (t : Operation) → same_operation t t ≡ true
same_itself t = grind arith

module _ (p : Setup) where
  -- another operation finished later changes nothing
  pub seen_older : (ds : List Completion) (d o : Completion) → Chain p (d ∷ ds) → o ∈ ds → seen (d ∷ ds) o ≡ seen ds o
  seen_older ds d o chain m = let l = newest p ds d o chain m in cond-false (same_operation (operation_of d) (operation_of o)) _ _ (grind arith)

  module _ (h : Completion → List ℕ) where
    -- the history of an operation goes on from that of the committed version
    pub record View (ds : List Completion) (d : Completion) : Type 0 where
      pub before : List ℕ
      pub whole : h d ≡ d.commit.site ∷ onto d.reply.entries before
      pub from :
          ((d.reply.version ≡ zeros p.size) × (before ≡ []))
          ⊎ ((o : Completion) × (o ∈ ds) × (o.commit.site ≡ d.reply.committer) × (o.commit.version ≡ d.reply.version) × (h o ≡ before))

    abbrev pub Views : List Completion → Type 0
    Views [] = Unit {0}
    Views (d ∷ ds) = View ds d × Views ds

    view_newest : (ds : List Completion) (d : Completion) → From p ds d.reply.committer d.reply.version
        → ((o : Completion) → o ∈ ds → h o ≡ seen ds o) → h d ≡ seen (d ∷ ds) d → View ds d
    view_newest ds d from old new = go from
      where
        i : ℕ
        i = d.commit.site

        first : h d ≡ i ∷ onto d.reply.entries (cond (is_zero d.reply.version) [] (seen_of ds (commit_of d)))
        first = new ∙ cond-true (same_operation (operation_of d) (operation_of d)) _ _ (same_itself (operation_of d))

        with_start : (b : List ℕ) → cond (is_zero d.reply.version) [] (seen_of ds (commit_of d)) ≡ b → h d ≡ i ∷ onto d.reply.entries b
        with_start b e = first ∙ ap (λ (l : List ℕ). i ∷ onto d.reply.entries l) e

        go : From p ds d.reply.committer d.reply.version → View ds d
        go (inl z) = record { before = []; whole = with_start [] (cond-true _ _ _ z.0); from = inl (z.1, refl) }
        go (inr (some, (o, m, s, v))) =
            let same : operation_of o ≡ commit_of d = λ k. operation (s k) (slot (v k) (s k)).timestamp in
            record {
              before = seen_of ds (commit_of d);
              whole = with_start _ (cond-false _ _ _ some);
              from = inr (o, m, s, v, old o m ∙ ap (seen_of ds) same);
            }

    pub views_from : (ds : List Completion) → Chain p ds → ((o : Completion) → o ∈ ds → h o ≡ seen ds o) → Views ds
    views_from [] chain e = tt
    views_from (d ∷ ds) chain e =
        let old : (o : Completion) → o ∈ ds → h o ≡ seen ds o = λ o m. e o (inr m) ∙ seen_older ds d o chain m in
        (view_newest ds d chain.0.from old (e d (inl refl)), views_from ds chain.1 old)
