-- The number of a site.
use Rattle.std.proofs.Common.{ℕ, Ok, Err, Result, arith, rules}
use Rattle.std.specs.Result.{IsOk}
use Rattle.signature.specs.declared.refusal.Refusal.{Refusal}
use Rattle.signature.specs.Calls.{Lefts}
use Rattle.signature.specs.Meaning.{SchemeMeaning, Site as Signer}
use Rattle.version.proofs.SlotLaws.{slots_length}
use Rattle.site.specs.declared.state.Site.{Site}

-- a scheme knows it
pub signer : (s : Site) → Signer s.number
signer s =
    let n = slots_length s.version in
    let k = s.version.sized.1 in
    let h = s.high in
    (s.low, omega arith)

pub left_known : (m : SchemeMeaning) (s : Site) (r : Result ℕ Refusal) → Lefts m s.number r → IsOk r
left_known m s (Ok n) h = search rules
left_known m s (Err e) h = absurd (h.0 (signer s))
