-- From the fields of a message to the whole of it.
use Rattle.std.proofs.Common.{ℕ, List, IfOk, Ok, Err, Result, ◌∙◌, Bor}
use Rattle.octets.specs.declared.BadField.{BadField}
use Rattle.octets.specs.Field.{Field, Undoes}
use Rattle.octets.specs.Numbers.{Bytes}
use Rattle.octets.specs.Reads.{Gets}
use Rattle.octets.proofs.Laws.{read_all, read_surplus, read_bad}
use Rattle.version.specs.Shape.{Size}
use Rattle.message.specs.declared.refusal.Refusal.{Refusal}
use Rattle.message.specs.declared.refusal.Refusal.TheVariants.{OutOfRange, ValueTooLong, BadField as BadAt, BufferTooShort}
use Rattle.message.specs.Reads.{Reads, ReadsAny, Ended}

module _ {M A : Type 0} (f : Field A) (of : M → A) (bs : List ℕ) where
  pub reads_any : (got : Result (M × Bor (List ℕ)) BadField) (r : Result M Refusal) → Undoes f → Bytes bs → Gets f of bs got → Ended bs got r → ReadsAny f of bs r
  reads_any (Ok p) (Ok m) u h g e =
      let x = read_all f bs (of p.0) p.1.now g e.0 ∙ rw e.1 in
      (x, (u.writing bs (of m) h x).0)
  reads_any (Ok p) (Err r) u h g e = rw e.1 (read_surplus f bs (of p.0) p.1.now g e.0)
  reads_any (Err b) (Ok m) u h g e = absurd e
  reads_any (Err b) (Err r) u h g e = rw e (read_bad f bs b.left g)

  -- in a group that there is
  in_group : (n : ℕ) (r : Result M Refusal) → Size n → ReadsAny f of bs r → Reads n f of bs r
  in_group n (Ok m) s h = (s, h.0, h.1)
  in_group n (Err OutOfRange) s h = absurd h
  in_group n (Err ValueTooLong) s h = h
  in_group n (Err (BadAt offset)) s h = (s, h)
  in_group n (Err BufferTooShort) s h = h

-- what is known of the message whose fields were read
pub ended_known : {M : Type 0} (Known : M → Type 0) (bs : List ℕ) (got : Result (M × Bor (List ℕ)) BadField) (r : Result M Refusal) → Ended bs got r → IfOk got (λ p. Known p.0) → IfOk r Known
ended_known Known bs (Ok p) (Ok m) e k = rw e.1 k
ended_known Known bs (Ok p) (Err r) e k = tt
ended_known Known bs (Err b) (Ok m) e k = absurd e
ended_known Known bs (Err b) (Err r) e k = tt

pub reads_whole : {M A : Type 0} (n : ℕ) (f : Field A) (of : M → A) (bs : List ℕ) (got : Result (M × Bor (List ℕ)) BadField) (r : Result M Refusal)
    → Undoes f → Bytes bs → Size n → Gets f of bs got → Ended bs got r → Reads n f of bs r
reads_whole n f of bs got r u h s g e = in_group f of bs n r s (reads_any f of bs got r u h g e)
