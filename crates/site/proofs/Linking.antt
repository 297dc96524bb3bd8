-- The string that is digested when an operation follows.
use Rattle.std.proofs.Common.{◌≡◌, ℕ, List, [], ◌∷◌, length, take, set, None, Option, arith}
use Rattle.rules.specs.Running.{link}

pub linked_none : (o : Option (List ℕ)) (room : List ℕ) (site : ℕ) → o ≡ None → length room ≡ 33 → take 1 (set room 0 site) ≡ link o site
linked_none o [] site e r = absurd (omega arith)
linked_none o (x ∷ room) site e r = rw e
