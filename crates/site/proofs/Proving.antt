-- The proof signatures of a reply, one behind the other.
use Rattle.std.proofs.Common.{◌≡◌, ℕ, zero, suc, ◌+◌, ◌-◌, ◌*◌, Bool, true, List, [], Some, None, Decides, Option, sym, ap, ◌∙◌, zero-add, arith}
use Rattle.std.proofs.lemmas.List.FromFn.{get_or-map-range_with_len}
use Rattle.message.specs.Places.{bytes_at}
use Rattle.message.specs.Reply.{signatures}
use Rattle.message.specs.Strings.{proof_string}
use Rattle.rules.specs.Checks.{Proved, proof_of}
use Rattle.rules.specs.Group.{Member}
use Rattle.signature.specs.Meaning.{SchemeMeaning}

-- that of a site of the group
proof_place : (g : ℕ) (bs : List ℕ) (n at site : ℕ) → Member n site → proof_of (signatures g bs n at) site ≡ bytes_at bs (at + g * (site - 1)) g
proof_place g bs n at zero h = absurd (omega arith)
proof_place g bs n at (suc k) h =
    let j : k ≡ suc k - 1 = omega arith in
    get_or-map-range_with_len (λ (k : ℕ). bytes_at bs (at + g * k) g) 0 n k k [] (omega arith) (zero-add k) ∙ ap (λ (k : ℕ). bytes_at bs (at + g * k) g) j

told : {r b : Bool} → r ≡ b → Decides r (b ≡ true)
told e = (λ h. sym e ∙ h, λ h. e ∙ h)

-- a digest that is there
pub proved : (g : ℕ) (bs : List ℕ) (n site : ℕ) (m : SchemeMeaning) (o : Option (List ℕ)) (d : List ℕ) (r : Bool) → Member n site → o ≡ Some d
    → r ≡ m.valid site (proof_string d) (bytes_at bs (0 + g * (site - 1)) g) → Decides r (Proved m site o (proof_of (signatures g bs n 0) site))
proved g bs n site m None d r h e v = let z : ◌≡◌ {A = ℕ} 0 1 = cc in absurd (omega arith)
proved g bs n site m (Some x) d r h e v =
    let p = proof_place g bs n 0 site h in
    let q : x ≡ d = cc in
    rw (p, q) (told v)
