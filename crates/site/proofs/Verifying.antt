-- From the checks one by one to what a site makes of a whole reply.
use Rattle.std.proofs.Common.{◌≡◌, ℕ, ◌<◌, List, [], ◌∷◌, length, Ok, Err, Option, Result, refl, ap, ◌∙◌, subst, ⊎_elim, arith}
use Rattle.message.specs.declared.reply.Reply.{Reply}
use Rattle.message.specs.Reply.{Listed, Response, response}
use Rattle.rules.specs.declared.phase.Phase.{Phase}
use Rattle.rules.specs.declared.stop.Stop.{Stop}
use Rattle.rules.specs.declared.stop.Stop.TheVariants.{CommitSignature, Forked, ProofSignature, OwnEntry, SubmitSignature, OwnerSignature, DataSignature, OwnerVersion, OwnerTimestamp}
use Rattle.rules.specs.Checks.{EntryStops, EntriesPass, EntriesStop, Follows, CommitSigned, ListStops, Fails}
use Rattle.rules.specs.Group.{Setup, SiteState, Member, max_timestamp, slot}
use Rattle.rules.specs.Running.{Running as Walk, rise, rise_all}
use Rattle.rules.proofs.Slots.{slot_set_other}
use Rattle.signature.specs.Meaning.{SchemeMeaning}
use Rattle.version.specs.Order.{Slot, AtOrBelow}
use Rattle.version.specs.Version.{slots}
use Rattle.site.specs.declared.running.Running.{Running}
use Rattle.site.specs.Checking.{EntriesAnswer, Verifies, ZeroOrSigned, answered, site_with, size_of}
use Rattle.site.specs.Running.{committed}
use Rattle.site.specs.State.{setup}
use Rattle.site.proofs.Entering.{risen_length}

-- the entries of other sites leave the group's size, and what is counted of the site i
module _ (H : List ℕ → List ℕ) (m : SchemeMeaning) (i : ℕ) (a : Response) where
  pub all_length : (w : Walk) (es : List Listed) → length (rise_all H w es).version ≡ length w.version
  all_length w [] = refl
  all_length w (e ∷ es) = all_length (rise H w e.site) es ∙ risen_length H w (rise H w e.site) e.site refl

  pub all_own : (w : Walk) (es : List Listed) → EntriesPass H m i a w es → slot (rise_all H w es).version i ≡ slot w.version i
  all_own w [] h = refl
  all_own w (e ∷ es) h = all_own (rise H w e.site) es h.1 ∙ slot_set_other w.version e.site i _ h.0.1

  -- a stop that no entry makes
  never : (stop : Stop) → ((w : Walk) (e : Listed) → EntryStops m i a w e stop → ⊥) → (w : Walk) (es : List Listed) → EntriesStop H m i a w es stop → ⊥
  never stop no-entry w [] h = h
  never stop no-entry w (e ∷ es) h = ⊎_elim (no-entry w e) (λ p. never stop no-entry (rise H w e.site) es p.1) h

module _ (p : Setup) (m : SchemeMeaning) (s : SiteState) (r : ℕ) (a : Response) (c : CommitSigned p m s r a) (f : Follows s a) where
  pub list_fails : (stop : Stop) → ListStops p m s r a stop → Fails p m s r a stop
  list_fails CommitSignature h = absurd (never p.digest m s.number a CommitSignature (λ w e z. z) _ a.entries h)
  list_fails Forked h = absurd (never p.digest m s.number a Forked (λ w e z. z) _ a.entries h)
  list_fails ProofSignature h = (c, f, h)
  list_fails OwnEntry h = (c, f, h)
  list_fails SubmitSignature h = (c, f, h)
  list_fails OwnerSignature h = absurd (never p.digest m s.number a OwnerSignature (λ w e z. z) _ a.entries h)
  list_fails DataSignature h = absurd (never p.digest m s.number a DataSignature (λ w e z. z) _ a.entries h)
  list_fails OwnerVersion h = absurd (never p.digest m s.number a OwnerVersion (λ w e z. z) _ a.entries h)
  list_fails OwnerTimestamp h = absurd (never p.digest m s.number a OwnerTimestamp (λ w e z. z) _ a.entries h)

-- the whole of a reply, once its committed version is signed and follows the site's
module _ (g : ℕ) (H : List ℕ → List ℕ) (M : SchemeMeaning) (i : ℕ) (v : List Slot) (r : ℕ) (m : Reply)
    (signed : ZeroOrSigned M m.committer (slots m.version) m.commit_signature.now) (follows : AtOrBelow v (slots m.version) × ((slot v i).timestamp ≡ (slot (slots m.version) i).timestamp))
    (n : ℕ) (size : size_of m ≡ n) where
  abbrev a : Response
  a = answered g m

  abbrev p : Setup
  p = setup (size_of m) g H

  -- the number of sites, by the site's version
  resized : (res : Result Running Stop) → Verifies p M i v r a res → Verifies (setup n g H) M i v r (response g n m) res
  resized res h = subst (λ (n : ℕ). Verifies (setup n g H) M i v r (response g n m) res) size h

  follow : (last : Option (List ℕ)) (phase : Phase) → Follows (site_with i v last phase) a
  follow last phase = record { above = follows.0; same = follows.1 }

  pub list_stops : (stop : Stop) → EntriesStop H M i a (committed m) a.entries stop → Verifies (setup n g H) M i v r (response g n m) (Err stop)
  list_stops stop h = resized (Err stop) (λ last phase. list_fails p M (site_with i v last phase) r a signed (follow last phase) stop h)

  -- after the list
  module _ (w : Running) (list : EntriesAnswer H M i a (committed m) a.entries (Ok w)) where
    pub own_member : Member n i → Member (length (slots w.version)) i
    own_member h =
        let l = ap (λ (w : Walk). length w.version) list.1 ∙ all_length H M i a (committed m) a.entries in
        omega arith

    pub own_below : (slot v i).timestamp < max_timestamp → (slot (slots w.version) i).timestamp < max_timestamp
    own_below h =
        let o = ap (λ (w : Walk). (slot w.version i).timestamp) list.1 ∙ ap (λ (s : Slot). s.timestamp) (all_own H M i a (committed m) a.entries list.0) in
        let f = follows.1 in
        omega arith
