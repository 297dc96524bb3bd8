-- The loop over the entries: what is left of them answers for all.
use Rattle.std.proofs.Common.{◌≡◌, ℕ, ◌≤◌, List, map, length, drop, Ok, Result, refl, ap, ◌∙◌}
use Rattle.std.proofs.lemmas.List.{drop_all}
use Rattle.message.specs.declared.reply.Entry.{Entry}
use Rattle.message.specs.Reply.{Listed, Response}
use Rattle.rules.specs.declared.stop.Stop.{Stop}
use Rattle.rules.specs.Running.{Running as Walk, rise}
use Rattle.rules.proofs.Slots.{length-with_slot}
use Rattle.signature.specs.Meaning.{SchemeMeaning}
use Rattle.site.specs.declared.running.Running.{Running}
use Rattle.site.specs.Checking.{EntriesAnswer}
use Rattle.site.specs.Running.{running}

-- an operation more leaves the group as large as it was
pub risen_length : (H : List ℕ → List ℕ) (w w' : Walk) (i : ℕ) → w' ≡ rise H w i → length w'.version ≡ length w.version
risen_length H w w' i e = ap (λ (w : Walk). length w.version) e ∙ length-with_slot w.version i _

module _ (H : List ℕ → List ℕ) (m : SchemeMeaning) (i : ℕ) (a : Response) where
  -- what the entries es answer at the version w is what all entries answer from the start
  abbrev pub Left : Walk → List Listed → Walk → List Listed → Type 0
  Left w₀ es₀ w es = (r : Result Running Stop) → EntriesAnswer H m i a w es r → EntriesAnswer H m i a w₀ es₀ r

  module _ (of : Entry → Listed) (w₀ : Walk) (es₀ : List Listed) (items : List Entry) where
    pub left_all : (k : ℕ) (w : Running) → length items ≤ k → Left w₀ es₀ (running w) (map of (drop k items)) → EntriesAnswer H m i a w₀ es₀ (Ok w)
    left_all k w l L = L (Ok w) (rw (drop_all k items l) (tt, refl))
