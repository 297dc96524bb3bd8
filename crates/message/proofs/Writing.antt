-- From the parts of a message to the message.
use Rattle.std.proofs.Common.{◌≡◌, ℕ, List, ◌++◌, length, drop, Ok, Err, Option, Result, sym, ap, ◌∙◌, arith}
use Rattle.std.proofs.lemmas.List.{append_assoc}
use Rattle.octets.specs.Field.{Field}
use Rattle.octets.specs.Numbers.{big_endian}
use Rattle.octets.proofs.Laws.{Lawful, undoes}
use Rattle.message.specs.declared.refusal.Refusal.{Refusal}
use Rattle.message.specs.declared.refusal.Refusal.TheVariants.{OutOfRange, ValueTooLong, BadField as BadAt, BufferTooShort}
use Rattle.message.specs.Fields.{value}
use Rattle.message.specs.Slots.{StoredValue, value_slot}
use Rattle.message.specs.Submit.{Submission, submit, operation_put}
use Rattle.message.specs.Writes.{Fills, Writes}

-- parts that make up a message
pub writes : {A : Type 0} {f : Field A} (m : A) (long : Type 0) (bs was is : List ℕ) (r : Result ℕ Refusal) → Lawful f → (long → ⊥) → bs ≡ f.put m → Fills bs was is r → Writes f m long was is r
writes m long bs was is (Ok size) F n e h = (n, h.0 ∙ ap length e, h.1 ∙ ap (λ (l : List ℕ). l ++ drop size was) e, (undoes F).reading m)
writes m long bs was is (Err OutOfRange) F n e h = let z : ◌≡◌ {A = ℕ} 0 1 = let q = h.2 in cc in absurd (omega arith)
writes m long bs was is (Err ValueTooLong) F n e h = let z : ◌≡◌ {A = ℕ} 0 1 = let q = h.2 in cc in absurd (omega arith)
writes m long bs was is (Err (BadAt offset)) F n e h = let z : ◌≡◌ {A = ℕ} 0 1 = let q = h.2 in cc in absurd (omega arith)
writes m long bs was is (Err BufferTooShort) F n e h = (n, (let l = ap length e in let s = h.0 in omega arith), h.1)

-- a part and then a value
pub value_put : (size v xs ys : List ℕ) (o : Option (List ℕ)) → size ++ v ≡ value.put o → xs ++ (size ++ (v ++ ys)) ≡ xs ++ (value.put o ++ ys)
value_put size v xs ys o e = ap (λ (l : List ℕ). xs ++ l) (sym (append_assoc size v ys) ∙ ap (λ (l : List ℕ). l ++ ys) e)

-- the parts of each message
pub submit_put : (n g : ℕ) (m : Submission) (head size v : List ℕ) → head ≡ operation_put m.site m.code m.register m.timestamp → size ++ v ≡ value.put m.value
    → head ++ (m.submit_signature ++ (size ++ (v ++ m.data_signature))) ≡ (submit n g).put m
submit_put n g m head size v e h =
    ap (λ (l : List ℕ). l ++ (m.submit_signature ++ (size ++ (v ++ m.data_signature)))) e
    ∙ ap (λ (l : List ℕ). operation_put m.site m.code m.register m.timestamp ++ l) (value_put size v m.submit_signature m.data_signature m.value h)

pub value_slot_put : (g : ℕ) (m : StoredValue) (stamp size v : List ℕ) → stamp ≡ big_endian 4 m.timestamp → size ++ v ≡ value.put m.value
    → stamp ++ (size ++ (v ++ m.data_signature)) ≡ (value_slot g).put m
value_slot_put g m stamp size v e h = value_put size v stamp m.data_signature m.value h ∙ ap (λ (l : List ℕ). l ++ (value.put m.value ++ m.data_signature)) e
