-- The keys of a scheme of this kind, and what its calls promise by them beyond what every scheme promises.
use Rattle.std.specs.Prelude.{◌≡◌, ℕ, List, ◌++◌, map, drop, Ok, Err, Result}
use Rattle.signature.specs.declared.refusal.Refusal.{Refusal}
use Rattle.hmac.specs.declared.keyed.Keyed.{Keyed}
use Rattle.hmac.specs.declared.scheme.Hmac.{Hmac}
use Rattle.hmac.specs.Keys.{mac}

abbrev pub key_of : Keyed → List ℕ
key_of k = k.key

-- the keys of the sites, in their order
abbrev pub site_keys : Hmac → List (List ℕ)
site_keys h = map key_of h.sites

-- the bytes that an accepted signing writes
abbrev pub Macs : List (List ℕ) → ℕ → List ℕ → List ℕ → List ℕ → Result (Unit {0}) Refusal → Type 0
Macs ks site text was is (Ok _) = is ≡ mac ks site text ++ drop 32 was
Macs ks site text was is (Err e) = is ≡ was
