use Rattle.std.proofs.Common.{◌≡◌, map, take, vec_items}
use Rattle.ledger.specs.Entries.{count}
use Rattle.ledger.specs.Held.{held}
use Rattle.ledger.proofs.ledger.Ledger.count.Given as goal

abbrev pub invariant-loop-entry : goal.invariant-loop-entry
invariant-loop-entry l = l.n ≡ count l.site (take l.entry-index (map held (vec_items l.self.entries)))
