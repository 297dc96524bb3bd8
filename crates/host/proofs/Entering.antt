-- A submit that is entered.
use Rattle.std.proofs.Common.{◌≡◌, ℕ, ◌+◌, ◌-◌, ◌≤◌, List, [], ◌∷◌, ◌++◌, length, drop, Ok, Result, ap, ◌∙◌, arith}
use Rattle.std.proofs.lemmas.List.{length-append, length-drop}
use Rattle.message.specs.declared.refusal.Refusal.{Refusal}
use Rattle.message.specs.Reply.{reply}
use Rattle.message.specs.Slots.{StoredValue, value_slot}
use Rattle.message.specs.Submit.{Submission}
use Rattle.message.specs.Writes.{Writes}
use Rattle.store.specs.declared.slot.Slot.TheVariants.{Value}
use Rattle.store.specs.Calls.{Replaced}
use Rattle.store.specs.Meaning.{StoreMeaning}
use Rattle.rules.specs.Group.{HostState}
use Rattle.rules.specs.Taking.{entry_of}
use Rattle.host.specs.Enters.{value_then, reply_bytes, Entered}
use Rattle.host.specs.Replies.{reply_to}
use Rattle.host.specs.Says.{stored_with, value_of}

pub then_is : (g : ℕ) (m : StoreMeaning) (a : Submission) (v old : StoredValue) → v ≡ stored_with a old.value → old ≡ value_of g m a.site → v ≡ value_then g m a
then_is g m a v old e f = rw f at e

-- what was written in front was not longer than the buffer
fits : (bs was is : List ℕ) (size : ℕ) → size ≡ length bs → is ≡ bs ++ drop size was → length is ≡ length was → length bs ≤ length was
fits bs was is size e f l =
    let k : length is ≡ length bs + (length was - size) = ap length f ∙ simp (length-append, length-drop) in
    omega arith

module _ (n g : ℕ) (h : HostState) (m : StoreMeaning) (a : Submission) (v : StoredValue) (later : v ≡ value_then g m a) (was is : List ℕ) where
  pub entered : (h' : HostState) (m' : StoreMeaning) (size : ℕ) (r : Result ℕ Refusal) → r ≡ Ok size → Writes (reply n g) (reply_to n g h m a.code a.site a.register v) ⊥ was is r → length is ≡ length was
      → Replaced m Value a.site ((value_slot g).put v) m' → h' ≡ record { committer = h.committer; list = h.list ++ (entry_of a ∷ []) } → Entered n g h h' m m' a was is size
  entered h' m' size r ok w long slot after =
      let x = rw (ok, later) at w in
      let s = x.1 in
      record {
        slot = rw later at slot;
        sized = s;
        room = fits (reply_bytes n g h m a) was is size s x.2 long;
        out = x.2 ∙ rw s;
        after = after;
      }
