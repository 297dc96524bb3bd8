-- What the keyed hash of a text is as a signature.
use Rattle.std.specs.Prelude.{◌≡◌, ℕ, ◌≤◌, true, ◌&&◌, List, length, nat_le, refl}
use Rattle.std.proofs.Common.{ap, ◌∙◌, arith}
use Rattle.std.specs.Str.{bytes_eq}
use Rattle.std.proofs.lemmas.Slice.Eq.{bytes_eq-Decides}
use Rattle.std.proofs.lemmas.Bool.{and_from, and_parts}
use Rattle.sha256.specs.Sha256.{sha256, output}
use Rattle.signature.specs.Limits.{max_sites, max_text}
use Rattle.signature.specs.Meaning.{Site, Fits}
use Rattle.signature.specs.Calls.{Made}
use Rattle.hmac.specs.Hmac.{hmac_sha256}
use Rattle.hmac.specs.Keys.{mac, allowed, meaning}

length_hmac : (key text : List ℕ) → length (hmac_sha256 key text) ≡ 32
unfolding hmac_sha256 sha256 output
length_hmac key text = refl

allowed_so : (s : ℕ) (t : List ℕ) → Site s → length t ≤ max_text → allowed s t ≡ true
allowed_so s t known short = grind (arith, known.0, known.1)

-- only a triple within the limits is valid
pub fits : (ks : List (List ℕ)) (s : ℕ) (t g : List ℕ) → (allowed s t && bytes_eq g (mac ks s t)) ≡ true → Fits 32 s t g
fits ks s t g h =
    let p = and_parts (allowed s t) (bytes_eq g (mac ks s t)) h in
    let q = and_parts (nat_le 1 s) (nat_le s max_sites && nat_le (length t) max_text) p.0 in
    let r = and_parts (nat_le s max_sites) (nat_le (length t) max_text) q.1 in
    let low = q.0 in
    let high = r.0 in
    let short = r.1 in
    record {
      ranged = (grind arith, grind arith);
      short = grind arith;
      sized = ap length ((bytes_eq-Decides g (mac ks s t)).0 p.1) ∙ length_hmac _ t;
    }

pub made : (ks : List (List ℕ)) (s : ℕ) (t : List ℕ) → Site s → length t ≤ max_text → Made 32 (meaning ks) (meaning ks) s t (mac ks s t)
made ks s t known short = record {
  fits = record { ranged = known; short = short; sized = length_hmac _ t };
  some = omega arith;
  holds = and_from (allowed s t) _ (allowed_so s t known short) ((bytes_eq-Decides (mac ks s t) (mac ks s t)).1 refl);
  stays = λ _ _ _ h. h;
  others = λ _ _. refl;
  falls = omega arith;
  by_one = omega arith;
}
