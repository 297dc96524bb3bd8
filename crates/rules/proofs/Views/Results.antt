-- What the version that a site makes of a reply says.
use Rattle.std.proofs.Common.{◌≡◌, ℕ, zero, suc, ◌+◌, ◌<◌, false, eqb, List, [], ◌∷◌, length, set, Some, refl, ap, ◌∙◌, arith}
use Rattle.octets.specs.Field.{Field, GoodAll}
use Rattle.message.specs.Reply.{Listed, Response}
use Rattle.signature.specs.Meaning.{SchemeMeaning}
use Rattle.version.specs.Layout.{slot_field}
use Rattle.version.specs.Order.{Slot, slot_with}
use Rattle.rules.specs.Group.{Member, slot, max_timestamp}
use Rattle.rules.specs.Running.{Running, link, from_reply, rise, rise_all, result}
use Rattle.rules.specs.Checks.{EntriesPass}
use Rattle.rules.specs.Shown.{Each}
use Rattle.rules.proofs.Reading.{GoodVersion}
use Rattle.rules.proofs.Slots.{slot-set-same, slot_set_other, length-with_slot}

-- no entry is one of the site i
abbrev pub Foreign : ℕ → List Listed → Type 0
Foreign i es = Each (λ (e : Listed). e.site ≡ i → ⊥) es

good_set : {A : Type 0} (f : Field A) (v : List A) (k : ℕ) (s : A) → GoodAll f v → f.Good s → GoodAll f (set v k s)
good_set f [] k s h g = tt
good_set f (a ∷ v) zero s h g = (g, h.1)
good_set f (a ∷ v) (suc k) s h g = (h.0, good_set f v k s h.1 g)

module _ (H : List ℕ → List ℕ) where
  pub length-rise_all : (w : Running) (es : List Listed) → length (rise_all H w es).version ≡ length w.version
  length-rise_all w [] = refl
  length-rise_all w (e ∷ es) = length-rise_all (rise H w e.site) es ∙ length-with_slot w.version e.site _

  -- the entries of others leave a site's slot as it was
  pub foreign_kept : (i : ℕ) (w : Running) (es : List Listed) → Foreign i es → slot (rise_all H w es).version i ≡ slot w.version i
  foreign_kept i w [] h = refl
  foreign_kept i w (e ∷ es) h = foreign_kept i (rise H w e.site) es h.1 ∙ slot_set_other w.version e.site i _ h.0

  -- and its own operation adds one
  pub own_slot : (n i : ℕ) (a : Response) → Member n i → length a.version ≡ n → Foreign i a.entries
      → slot (result H i a).version i ≡ slot_with ((slot a.version i).timestamp + 1) (Some (H (link (rise_all H (from_reply a) a.entries).digest i)))
  own_slot n i a is l h =
      let w = rise_all H (from_reply a) a.entries in
      let long : length w.version ≡ n = length-rise_all (from_reply a) a.entries ∙ l in
      let new : Slot = slot_with ((slot w.version i).timestamp + 1) (Some (H (link w.digest i))) in
      slot-set-same w.version i new is.0 (omega arith)
      ∙ ap (λ (s : Slot). slot_with (s.timestamp + 1) (Some (H (link w.digest i)))) (foreign_kept i (from_reply a) a.entries h)

  pub foreign_from : (m : SchemeMeaning) (i : ℕ) (a : Response) (w : Running) (es : List Listed) → EntriesPass H m i a w es → Foreign i es
  foreign_from m i a w [] h = tt
  foreign_from m i a w (e ∷ es) h = (h.0.1, foreign_from m i a (rise H w e.site) es h.1)

  -- it can be written
  module _ (wide : (bs : List ℕ) → length (H bs) ≡ 32) (n : ℕ) where
    good_rise : (w : Running) (i : ℕ) → GoodVersion n w.version → (slot w.version i).timestamp < max_timestamp → GoodVersion n (rise H w i).version
    good_rise w zero g less = g
    good_rise w (suc k) g less = (length-with_slot w.version (suc k) new ∙ g.0, good_set slot_field w.version k new g.1 fine)
      where
        new : Slot
        new = slot_with ((slot w.version (suc k)).timestamp + 1) (Some (H (link w.digest (suc k))))

        fine : slot_field.Good new
        fine =
            let some : eqb ((slot w.version (suc k)).timestamp + 1) 0 ≡ false = grind arith in
            ((omega arith, rw some ((wide _, refl), refl)), refl)

    good_rise_all : (m : SchemeMeaning) (i : ℕ) (a : Response) (w : Running) (es : List Listed) → EntriesPass H m i a w es → GoodVersion n w.version
        → GoodVersion n (rise_all H w es).version
    good_rise_all m i a w [] h g = g
    good_rise_all m i a w (e ∷ es) h g = good_rise_all m i a (rise H w e.site) es h.1 (good_rise w e.site g h.0.2.below)

    pub good_result : (m : SchemeMeaning) (i : ℕ) (a : Response) → EntriesPass H m i a (from_reply a) a.entries → GoodVersion n a.version
        → (slot a.version i).timestamp < max_timestamp → GoodVersion n (result H i a).version
    good_result m i a h g less =
        good_rise (rise_all H (from_reply a) a.entries) i (good_rise_all m i a (from_reply a) a.entries h g)
        (let kept = foreign_kept i (from_reply a) a.entries (foreign_from m i a (from_reply a) a.entries h) in rw kept less)
