use Rattle.std.proofs.Common.{◌≡◌, ℕ, ◌+◌, List, map, length, get_or, ltb, Some, None, Option, Bor, arith}
use Rattle.std.specs.Option.{IfSome, is_some, option_map}
use Rattle.octets.specs.Numbers.{number}
use Rattle.ledger.specs.declared.entry.Entry.{Entry}
use Rattle.ledger.specs.Calls.{Finds}
use Rattle.ledger.specs.Held.{held}
use Rattle.ledger.specs.Named.{named_entry, named_none}
use Rattle.ledger.proofs.ledger.Ledger.named.Goals as goal

found : (xs : List Entry) (g : List ℕ) (place : ℕ) (r : Option (Bor Entry)) → length g ≡ 8 → number g ≡ place + 1
    → (is_some r ≡ ltb place (length xs)) → IfSome r (λ x. x.now ≡ get_or xs place x.now) → Finds (map held xs) g (option_map (λ e. held e.now) r)
found xs g place None long is there same = λ s t. named_none xs s t g place long is (grind arith)
found xs g place (Some e) long is there same = λ s t. named_entry xs s t g place long is e.now (grind arith) same

pub returns : goal.returns
returns c =
    let p = c.in_ok-place_of.ensures in
    rw (← c.deref.ensures.value) (found c.deref.result.now c.args.signature.now c.in_ok-place_of.field-0 c.get.result p.0 p.1 c.get.ensures.lookup.0 c.get.ensures.lookup.1)
