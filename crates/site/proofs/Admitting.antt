-- What can be refused at a finish before the reply is checked.
use Rattle.std.proofs.Common.{◌≡◌, ℕ, ◌+◌, ◌*◌, ◌<◌, ◌≤◌, eqb, List, length, Ok, Err, sym, ap, ◌∙◌}
use Rattle.std.proofs.lemmas.Bool.{eq-eqb, cond-true}
use Rattle.octets.specs.Field.{read}
use Rattle.message.specs.declared.code.Code.{Code}
use Rattle.message.specs.declared.reply.Reply.{Reply}
use Rattle.message.specs.Code.{code_number}
use Rattle.message.specs.Reply.{asked, reply, response, FoundBefore}
use Rattle.rules.specs.declared.refusal.Refusal.{Refusal}
use Rattle.rules.specs.declared.refusal.Refusal.TheVariants.{OutOfRange, OutOfService, OutOfTurn, ValueTooLong, TimestampLimit, TooFewSignatures, BadField, BufferTooShort}
use Rattle.rules.specs.Finish.{Operation, Awaits, expecting, read_reply}
use Rattle.rules.specs.Group.{SiteState}
use Rattle.signature.specs.Meaning.{SchemeMeaning}
use Rattle.site.specs.Checking.{WellRead, answered, size_of}
use Rattle.site.specs.Finishing.{ReadsReply, Admits}
use Rattle.site.specs.State.{setup}

-- a reply to the operation
pub reply_read :
    (n g : ℕ) (c : Code) (bs : List ℕ) (m : Reply) → read (reply n g) bs ≡ Ok (response g n m) → asked m.found ≡ c → size_of m ≡ n → WellRead g m → FoundBefore g bs m.found
    → ReadsReply n g c bs (Ok m)
reply_read n g c bs m e k size well before = (λ digest. at digest, size, well, before)
  where
    one : expecting c bs (Ok (response g n m)) ≡ Ok (response g n m)
    one = cond-true (eqb (code_number (asked m.found)) (code_number c)) (Ok (response g n m)) (Err 1) (eq-eqb (code_number (asked m.found)) (code_number c) (ap code_number k))

    at : (digest : List ℕ → List ℕ) → read_reply (setup n g digest) c bs ≡ Ok (answered g m)
    at digest = ap (expecting c bs) e ∙ one ∙ ap (λ (k : ℕ). Ok (response g k m)) (sym size)

module _ (g : ℕ) (m : SchemeMeaning) (s : SiteState) (t : Operation) (bs : List ℕ) (room : ℕ) (c : Code) (r : ℕ) (w : Awaits s t c r) (two : 2 ≤ m.left s.number) where
  -- bytes that are no reply to it
  pub unread : (e : Refusal) → ReadsReply (length s.version) g c bs (Err e) → Admits g m s t bs room (Err e)
  unread OutOfRange h = absurd h
  unread OutOfService h = absurd h
  unread OutOfTurn h = absurd h
  unread ValueTooLong h = absurd h
  unread TimestampLimit h = absurd h
  unread TooFewSignatures h = absurd h
  unread (BadField offset) h = λ digest. (c, r, w, two, h digest)
  unread BufferTooShort h = absurd h

  -- a buffer that is too short
  pub no_room : (a : Reply) → ReadsReply (length s.version) g c bs (Ok a) → room < 2 + 36 * length s.version + 2 * g → Admits g m s t bs room (Err BufferTooShort)
  no_room a h short = λ digest. (c, r, answered g a, w, two, h.0 digest, short)
