use Rattle.std.proofs.Common.{◌≡◌, ℕ, ◌-◌, ◌≤◌, List, length, take, Ok, Err, Some, None, Option, Result, sym, ap, ◌∙◌, arith, ◌≢◌}
use Rattle.std.specs.Array.{IsWholeChunk}
use Rattle.std.specs.Option.{SomeIff}
use Rattle.std.specs.Result.{MatchResult, result_ok}
use Rattle.std.proofs.lemmas.List.{take_all}
use Rattle.octets.specs.Numbers.{number}
use Rattle.octets.proofs.Cuts.{each, numeral_rest}
use Rattle.octets.proofs.Laws.{cut_inv}
use Rattle.ledger.specs.Calls.{Placed}
use Rattle.ledger.proofs.serial.place_of.Goals as goal

-- the number that the code made of the bytes one by one
spelled : (g : List ℕ) (n : ℕ) → length g ≡ 8 → number (each g 0 8) ≡ n → number g ≡ n
spelled g n long e = ap number (sym (take_all 8 g (omega arith))) ∙ (cut_inv 8 (number (take 8 g)) g (numeral_rest 8 g n (omega arith) e)).1

-- the serial number less 1
placed : (g : List ℕ) (serial : ℕ) (r : Option ℕ) → length g ≡ 8 → number g ≡ serial → SomeIff r (1 ≤ serial) (serial - 1) → Placed g r
placed g serial None long is none = λ _. grind (arith, none)
placed g serial (Some k) long is some = (long, omega (arith, some.0, some.1))

-- the array that was made of the bytes
whole : {E : Type 0} (g b : List ℕ) (r : Result (List ℕ) E) → Some b ≡ result_ok r → MatchResult r (λ y. IsWholeChunk g y 8) (λ _. length g ≢ 8) → (length g ≡ 8) × (b ≡ g)
whole g b (Ok y) e h = (h.long, grind (arith, h.same))
whole g b (Err x) e h = grind arith

pub returns : goal.returns
returns c =
    let g = c.args.signature.now in
    let w = whole g c.in_ok-ok.field-0 c.try_from.result c.in_ok-ok.ensures.value c.try_from.ensures.1 in
    placed g c.from_be_bytes-serial.result c.checked_sub.result w.0 (spelled g _ w.0 (rw (← w.1) (omega (arith, c.from_be_bytes-serial.ensures)))) c.checked_sub.ensures
