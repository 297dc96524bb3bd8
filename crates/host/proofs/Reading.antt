-- What is known of a message that reads.
use Rattle.std.proofs.Common.{◌≡◌, ℕ, true, ◌&&◌, leb, List, Ok, Err, Result, refl}
use Rattle.std.proofs.lemmas.Bool.{and_parts, leb-true}
use Rattle.octets.specs.Field.{Field, Undoes}
use Rattle.octets.specs.Numbers.{Bytes}
use Rattle.message.specs.declared.refusal.Refusal.{Refusal}
use Rattle.message.specs.declared.refusal.Refusal.TheVariants.{OutOfRange, ValueTooLong, BadField, BufferTooShort}
use Rattle.message.specs.Commit.{Commitment, commit}
use Rattle.message.specs.Reads.{Reads, ReadsAny}
use Rattle.message.specs.Submit.{Submission, submit}
use Rattle.version.specs.Shape.{Size}
use Rattle.rules.specs.Group.{Member}
use Rattle.host.specs.Messages.{FormedCommit, FormedSubmit, ReadsFormed}
use Rattle.host.proofs.Saying.{short_value}

member : (n i : ℕ) → (leb 1 i && leb i n) ≡ true → Member n i
member n i h = let p = and_parts (leb 1 i) (leb i n) h in (leb-true 1 i p.0, leb-true i n p.1)

-- what has the form of the group's messages
pub commit_formed : (n g : ℕ) (c : Commitment) → (commit n g).Good c → FormedCommit n g c
commit_formed n g c h =
    record { member = member n c.site h.0.0.1.1; sized = h.0.1.0.0; signed = h.0.1.1.0; proved = h.0.1.1.1 }

pub submit_formed : (n g : ℕ) (a : Submission) → (submit n g).Good a → FormedSubmit n g a
submit_formed n g a h =
    record {
      member = member n a.site h.0.0.1.0.1;
      register = member n a.register (and_parts (leb 1 a.register && leb a.register n) _ h.0.0.1.1.1.1).0;
      short = short_value a.value h.0.1.1.1.0.0;
      signed = h.0.1.1.0;
      data_signed = h.0.1.1.1.1;
    }

module _ {M A : Type 0} (f : Field A) (of : M → A) (bs : List ℕ) where
  -- a group's size is right already
  pub of_any_size : (n : ℕ) (r : Result M Refusal) → Size n → Reads n f of bs r → ReadsAny f of bs r
  of_any_size n (Ok m) s h = (h.1, h.2)
  of_any_size n (Err OutOfRange) s h = absurd (h s)
  of_any_size n (Err ValueTooLong) s h = absurd h
  of_any_size n (Err (BadField offset)) s h = h.1
  of_any_size n (Err BufferTooShort) s h = absurd h

  -- what is read has the form that is written
  pub reads_formed : (Formed : A → Type 0) (r : Result M Refusal) → Bytes bs → Undoes f → ((a : A) → f.Good a → Formed a) → ReadsAny f of bs r → ReadsFormed f of Formed bs r
  reads_formed Formed (Ok m) b u good h = (h.0, good (of m) (u.writing bs (of m) b h.0).1)
  reads_formed Formed (Err OutOfRange) b u good h = absurd h
  reads_formed Formed (Err ValueTooLong) b u good h = absurd h
  reads_formed Formed (Err (BadField offset)) b u good h = (offset, h, refl)
  reads_formed Formed (Err BufferTooShort) b u good h = absurd h
