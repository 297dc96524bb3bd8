-- What each call answers and changes: `len` is the signature length, m the meaning before the call, m' the meaning after it.
use Rattle.std.specs.Prelude.{◌≡◌, ℕ, ◌+◌, ◌-◌, ◌<◌, ◌≤◌, Bool, true, List, ◌++◌, length, drop, Ok, Err, Result, ◌≢◌}
use Rattle.octets.specs.Puts.{Puts}
use Rattle.signature.specs.declared.refusal.Refusal.{Refusal}
use Rattle.signature.specs.declared.refusal.Refusal.TheVariants.{OutOfRange, TextTooLong, NoneLeft, BufferTooShort}
use Rattle.signature.specs.Limits.{max_text}
use Rattle.signature.specs.Meaning.{SchemeMeaning, Site, Fits}

-- Which refusal a signing with room for `room` bytes meets: in each case the checks before it have passed, and this one fails.
abbrev pub SignRefused : ℕ → SchemeMeaning → ℕ → List ℕ → ℕ → Refusal → Type 0
SignRefused len m site text room OutOfRange = Site site → ⊥
SignRefused len m site text room TextTooLong = Site site × (max_text < length text)
SignRefused len m site text room NoneLeft = Site site × (length text ≤ max_text) × (m.left site ≡ 0)
SignRefused len m site text room BufferTooShort = Site site × (length text ≤ max_text) × (0 < m.left site) × (room < len)

-- what the checks answer that come before a signing
abbrev pub MaySign : ℕ → SchemeMeaning → ℕ → List ℕ → ℕ → Result (Unit {0}) Refusal → Type 0
MaySign len m site text room (Ok _) = Site site × (length text ≤ max_text) × (0 < m.left site) × (len ≤ room)
MaySign len m site text room (Err e) = SignRefused len m site text room e

-- A signature was made of a text. Which one is left open, but that it is valid from then on.
pub record Made (len : ℕ) (m m' : SchemeMeaning) (site : ℕ) (text signature : List ℕ) : Type 0 where
  pub fits : Fits len site text signature
  pub some : 0 < m.left site
  pub holds : m'.valid site text signature ≡ true
  pub stays : (s : ℕ) (t g : List ℕ) → m.valid s t g ≡ true → m'.valid s t g ≡ true
  pub others : (s : ℕ) → (s ≢ site) → m'.left s ≡ m.left s
  pub falls : m'.left site ≤ m.left site
  pub by_one : m.left site ≤ m'.left site + 1

-- the signature in front of the buffer and the old bytes behind it; or a refusal, and all as it was
abbrev pub Signs : ℕ → SchemeMeaning → SchemeMeaning → ℕ → List ℕ → List ℕ → List ℕ → Result (Unit {0}) Refusal → Type 0
Signs len m m' site text was is (Ok _) = (signature : List ℕ) × Made len m m' site text signature × (len ≤ length was) × (is ≡ signature ++ drop len was)
Signs len m m' site text was is (Err e) = SignRefused len m site text (length was) e × (m' ≡ m) × (is ≡ was)

-- there is such a site
abbrev pub ChecksSite : ℕ → Result (Unit {0}) Refusal → Type 0
ChecksSite site (Ok _) = Site site
ChecksSite site (Err e) = (Site site → ⊥) × (e ≡ OutOfRange)

abbrev pub Lefts : SchemeMeaning → ℕ → Result ℕ Refusal → Type 0
Lefts m site (Ok n) = Site site × (n ≡ m.left site)
Lefts m site (Err e) = (Site site → ⊥) × (e ≡ OutOfRange)

abbrev pub Checks : SchemeMeaning → ℕ → List ℕ → List ℕ → Bool → Type 0
Checks m site text signature r = r ≡ m.valid site text signature

-- the same at a place of the buffer
abbrev pub SignsAt : ℕ → SchemeMeaning → SchemeMeaning → ℕ → List ℕ → ℕ → List ℕ → List ℕ → Result ℕ Refusal → Type 0
SignsAt len m m' site text start was is (Ok end) = (signature : List ℕ) × Made len m m' site text signature × Puts signature start was is end
SignsAt len m m' site text start was is (Err e) = SignRefused len m site text (length was - start) e × (m' ≡ m) × (is ≡ was)
