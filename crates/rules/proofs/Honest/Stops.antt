-- A reply that passes every check meets no stop.
use Rattle.std.proofs.Common.{ℕ, List, [], ◌∷◌, Some, None, Option, inl, inr}
use Rattle.message.specs.Reply.{Listed, Held, Response}
use Rattle.signature.specs.Meaning.{SchemeMeaning}
use Rattle.version.specs.Order.{Slot}
use Rattle.rules.specs.declared.stop.Stop.{Stop}
use Rattle.rules.specs.declared.stop.Stop.TheVariants.{CommitSignature, Forked, ProofSignature, OwnEntry, SubmitSignature, OwnerSignature, DataSignature, OwnerVersion, OwnerTimestamp}
use Rattle.rules.specs.Group.{Setup, SiteState}
use Rattle.rules.specs.Running.{Running, rise}
use Rattle.rules.specs.Checks.{EntryPasses, EntryStops, EntriesPass, EntriesStop, FoundPasses, FoundStops, AnswerPasses, AnswerStops, Passes, Fails}

entry_never : (m : SchemeMeaning) (i : ℕ) (a : Response) (w : Running) (e : Listed) → EntryPasses m i a w e → (stop : Stop) → EntryStops m i a w e stop → ⊥
entry_never m i a w e h CommitSignature f = f
entry_never m i a w e h Forked f = f
entry_never m i a w e h ProofSignature f = f h.0
entry_never m i a w e h OwnEntry f = f.1 h.1
entry_never m i a w e h SubmitSignature f = f.2 h.2
entry_never m i a w e h OwnerSignature f = f
entry_never m i a w e h DataSignature f = f
entry_never m i a w e h OwnerVersion f = f
entry_never m i a w e h OwnerTimestamp f = f

entries_never :
    (H : List ℕ → List ℕ) (m : SchemeMeaning) (i : ℕ) (a : Response) (w : Running) (es : List Listed) → EntriesPass H m i a w es → (stop : Stop)
    → EntriesStop H m i a w es stop → ⊥
entries_never H m i a w [] h stop f = f
entries_never H m i a w (e ∷ es) h stop (inl f) = entry_never m i a w e h.0 stop f
entries_never H m i a w (e ∷ es) h stop (inr f) = entries_never H m i a (rise H w e.site) es h.1 stop f.1

found_never :
    (p : Setup) (m : SchemeMeaning) (a : Response) (v : List Slot) (r : ℕ) (x : Held) → FoundPasses p m a v r x → (stop : Stop)
    → FoundStops p m a v r x stop → ⊥
found_never p m a v r x h CommitSignature f = f
found_never p m a v r x h Forked f = f
found_never p m a v r x h ProofSignature f = f
found_never p m a v r x h OwnEntry f = f
found_never p m a v r x h SubmitSignature f = f
found_never p m a v r x h OwnerSignature f = f h.owner
found_never p m a v r x h DataSignature f = f.1 h.value
found_never p m a v r x h OwnerVersion f = f.2 h.within
found_never p m a v r x h OwnerTimestamp f = f.3 h.recent

module _ (p : Setup) (m : SchemeMeaning) (s : SiteState) (r : ℕ) (a : Response) where
  answer_never : (o : Option Held) → AnswerPasses p m s r a o → (stop : Stop) → AnswerStops p m s r a o stop → ⊥
  answer_never None h stop f = f
  answer_never (Some x) h stop f = found_never p m a _ r x h stop f

  pub never_fails : Passes p m s r a → (stop : Stop) → Fails p m s r a stop → ⊥
  never_fails h CommitSignature f = f h.committed
  never_fails h Forked f = f.1 h.follows
  never_fails h ProofSignature f = entries_never p.digest m s.number a _ a.entries h.list ProofSignature f.2
  never_fails h OwnEntry f = entries_never p.digest m s.number a _ a.entries h.list OwnEntry f.2
  never_fails h SubmitSignature f = entries_never p.digest m s.number a _ a.entries h.list SubmitSignature f.2
  never_fails h OwnerSignature f = answer_never a.found h.answer OwnerSignature f.3
  never_fails h DataSignature f = answer_never a.found h.answer DataSignature f.3
  never_fails h OwnerVersion f = answer_never a.found h.answer OwnerVersion f.3
  never_fails h OwnerTimestamp f = answer_never a.found h.answer OwnerTimestamp f.3
