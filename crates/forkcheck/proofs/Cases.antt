-- From the answers of reading and comparing to the answer of the check.
use Rattle.std.proofs.Common.{ℕ, List, Ok, Err, Result, inr, arith}
use Rattle.version.specs.declared.order.Order.{Order}
use Rattle.version.specs.declared.refusal.Refusal.{Refusal}
use Rattle.version.specs.declared.version.Version.{Version}
use Rattle.version.specs.Calls.{Reads, Compares}
use Rattle.version.specs.Version.{slots}
use Rattle.forkcheck.specs.Check.{Spells, Checks}

spells : (n : ℕ) (bs : List ℕ) (v : Version) → Reads n bs (Ok v) → Spells n bs (slots v)
spells n bs v h = (h.0, h.2)

pub checks : (n m : ℕ) (a b : List ℕ) (u v : Version) (r : Result Order Refusal) → Reads n a (Ok u) → Reads m b (Ok v) → Compares u v r → Checks n a m b r
checks n m a b u v (Ok o) p q h =
    let x = p.1 in
    let y = q.1 in
    let e = h.0 in
    (slots u, slots v, spells n a u p, spells m b v q, omega arith, h.1)
checks n m a b u v (Err e) p q h =
    let x = p.1 in
    let y = q.1 in
    inr (inr (slots u, slots v, spells n a u p, spells m b v q, λ z. h.0 (omega arith), h.1))
