-- What the ledger's calls answer and change beyond what every scheme promises.
use Rattle.std.specs.Prelude.{◌≡◌, ℕ, ◌+◌, false, List, [], ◌∷◌, ◌++◌, map, length, drop, Some, None, Ok, Err, vec_items, Option, Result}
use Rattle.octets.specs.Numbers.{number}
use Rattle.signature.specs.declared.refusal.Refusal.{Refusal}
use Rattle.ledger.specs.declared.ledger.Ledger.{Ledger}
use Rattle.ledger.specs.Entries.{Signing, signing, next_serial, holds, names}
use Rattle.ledger.specs.Held.{held}

-- the entries of a ledger
abbrev pub entries : Ledger → List Signing
entries l = map held (vec_items l.entries)

-- Of the entries before and after a signing: one more, whose serial number was written; or none.
abbrev pub Enters : List Signing → List Signing → ℕ → List ℕ → List ℕ → List ℕ → Result (Unit {0}) Refusal → Type 0
Enters es es' site text was is (Ok _) = (es' ≡ es ++ signing site text ∷ []) × (is ≡ next_serial es ++ drop 8 was)
Enters es es' site text was is (Err e) = es' ≡ es

-- the entry that a signature names, if it names any
abbrev pub Finds : List Signing → List ℕ → Option Signing → Type 0
Finds es g (Some e) = (s : ℕ) (t : List ℕ) → names es s t g ≡ holds s t e
Finds es g None = (s : ℕ) (t : List ℕ) → names es s t g ≡ false

-- where the entry stands that a signature names, if it names any
abbrev pub Placed : List ℕ → Option ℕ → Type 0
Placed g (Some k) = (length g ≡ 8) × (number g ≡ k + 1)
Placed g None = length g ≡ 8 → number g ≡ 0
