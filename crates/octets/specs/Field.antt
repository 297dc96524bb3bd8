-- A field of a message: how a value is put into bytes, and how it is got from the front of bytes.
use Rattle.std.specs.Prelude.{◌≡◌, ℕ, zero, suc, ◌-◌, ◌^◌, ◌<◌, Bool, true, cond, List, [], ◌∷◌, ◌++◌, length, take, drop, Ok, Err, Result, nat_le}
use Rattle.octets.specs.Numbers.{Bytes, number, big_endian}

-- what is got: the value and the bytes behind it, or how many bytes are left from the first byte of a bad field on
pub data Got (A : Type 0) : Type 0 where
  good : A → List ℕ → Got A
  bad : ℕ → Got A

abbrev pub next : {A B : Type 0} → Got A → (A → List ℕ → Got B) → Got B
next (good a rest) then = then a rest
next (bad left) then = bad left

pub record Field (A : Type 0) : Type 1 where
  pub put : A → List ℕ
  pub get : List ℕ → Got A
  -- the values that have this form
  pub Good : A → Type 0

-- `value`, for which the first `size` bytes stand, where there are so many
abbrev pub cut : {A : Type 0} → ℕ → A → List ℕ → Got A
cut size value bs = cond (nat_le size (length bs)) (good value (drop size bs)) (bad (length bs))

-- a number of so many bytes
abbrev pub numeral : ℕ → Field ℕ
numeral width = record {
  put = big_endian width;
  get = λ bs. cut width (number (take width bs)) bs;
  Good = λ n. n < 256 ^ width;
}

-- so many bytes, whatever they are
abbrev pub span : ℕ → Field (List ℕ)
span size = record { put = λ bs. bs; get = λ bs. cut size (take size bs) bs; Good = λ bs. length bs ≡ size }

-- no bytes at all
abbrev pub nothing : Field (Unit {0})
nothing = record { put = λ _. []; get = λ bs. good tt bs; Good = λ _. Unit {0} }

-- a field whose value passes a test: any other value makes it bad
abbrev pub checked : {A : Type 0} → (A → Bool) → ℕ → A → List ℕ → Got A
checked test left a rest = cond (test a) (good a rest) (bad left)

abbrev pub only : {A : Type 0} → (A → Bool) → Field A → Field A
only test f = record {
  put = f.put;
  get = λ bs. next (f.get bs) (checked test (length bs));
  Good = λ a. f.Good a × (test a ≡ true);
}

-- a field and then another, which may depend on the first one's value
abbrev pub ◌then◌ : {A B : Type 0} → Field A → (A → Field B) → Field (A × B)
◌then◌ f g = record {
  put = λ p. f.put p.0 ++ (g p.0).put p.1;
  get = λ bs. next (f.get bs) (λ a rest. next ((g a).get rest) (λ b rest'. good (a, b) rest'));
  Good = λ p. f.Good p.0 × (g p.0).Good p.1;
}

infixr 20 ◌then◌
-- fields that count as one: whatever is bad or incomplete within it makes all of it bad
abbrev pub from_start : {A : Type 0} → ℕ → Got A → Got A
from_start left (good a rest) = good a rest
from_start left (bad _) = bad left

abbrev pub joint : {A : Type 0} → Field A → Field A
joint f = record { put = f.put; get = λ bs. from_start (length bs) (f.get bs); Good = f.Good }

-- the same bytes for values of another type
abbrev pub shaped : {A B : Type 0} → (A → B) → (B → A) → Field A → Field B
shaped to from f = record {
  put = λ b. f.put (from b);
  get = λ bs. next (f.get bs) (λ a rest. good (to a) rest);
  Good = λ b. f.Good (from b) × (to (from b) ≡ b);
}

-- so many fields of one kind
module _ {A : Type 0} (f : Field A) where
  abbrev pub put_all : List A → List ℕ
  put_all [] = []
  put_all (a ∷ xs) = f.put a ++ put_all xs

  abbrev pub get_all : ℕ → List ℕ → Got (List A)
  get_all zero bs = good [] bs
  get_all (suc n) bs = next (f.get bs) (λ a rest. next (get_all n rest) (λ xs rest'. good (a ∷ xs) rest'))

  abbrev pub GoodAll : List A → Type 0
  GoodAll [] = Unit {0}
  GoodAll (a ∷ xs) = f.Good a × GoodAll xs

abbrev pub times : {A : Type 0} → ℕ → Field A → Field (List A)
times n f = record { put = put_all f; get = get_all f n; Good = λ xs. (length xs ≡ n) × GoodAll f xs }

-- Bytes that are to be one value and nothing else: the value, or the offset of the first bad, incomplete or surplus field.
abbrev pub ended : {A : Type 0} → ℕ → A → List ℕ → Result A ℕ
ended total a [] = Ok a
ended total a (b ∷ rest) = Err (total - length (b ∷ rest))

abbrev pub whole : {A : Type 0} → ℕ → Got A → Result A ℕ
whole total (good a rest) = ended total a rest
whole total (bad left) = Err (total - left)

abbrev pub read : {A : Type 0} → Field A → List ℕ → Result A ℕ
read f bs = whole (length bs) (f.get bs)

-- Reading undoes writing, and writing undoes reading.
pub record Undoes {A : Type 0} (f : Field A) : Type 0 where
  pub reading : (a : A) → f.Good a → read f (f.put a) ≡ Ok a
  pub writing : (bs : List ℕ) (a : A) → Bytes bs → read f bs ≡ Ok a → (f.put a ≡ bs) × f.Good a
