-- what holds of a digest, if one was given
use Rattle.std.proofs.Common.{◌≡◌, ℕ, List, ◌∷◌, ◌++◌, IfSome, IfOk, Some, None, Ok, Err, Option, Result}
use Rattle.vectors.specs.Questions.{Asks, Named}
use Rattle.std.specs.declared.alloc.AllocError.{AllocError}

pub found_so : (P Q : List ℕ → Type 0) → ((d : List ℕ) → P d → Q d) → (r : Result (Option (List ℕ)) AllocError) → IfOk r (λ o. IfSome o P) → IfOk r (λ o. IfSome o Q)
found_so P Q f (Ok (Some d)) h = f d h
found_so P Q f (Ok None) h = tt
found_so P Q f (Err e) h = tt

-- a line whose name and words ask for it
pub asked : (line name words : List ℕ) → line ≡ name ++ 32 ∷ words → (P : List ℕ → Type 0) → ((d : List ℕ) → P d → Named name words d)
    → (r : Result (Option (List ℕ)) AllocError) → IfOk r (λ o. IfSome o P) → IfOk r (λ o. IfSome o (Asks line))
asked line name words e P f = found_so P (Asks line) (λ d p. (name, words, e, f d p))
