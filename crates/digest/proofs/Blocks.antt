-- Laws of a message that is taken block by block, for any state, step and block size.
use Rattle.std.proofs.Common.{◌≡◌, ℕ, zero, suc, ◌+◌, ◌-◌, ◌*◌, ◌/◌, ◌%◌, ◌<◌, ◌≤◌, List, ◌++◌, length, get_or, take, drop, sym, refl, ap, ◌∙◌, append_assoc, append-nil, add-zero, add-suc, mod-lt, mul_comm, add-mul, add_comm, one-mul, mul-zero, div-add-mod', zero-mul, mul-one, mul-suc, mul-add, add-one, arith, length-append, take-append-drop, get_or-drop, get_or-take}
use native.Mathlib.Nat.{add-div_left, div-eq_of_lt, div_self, mul-add-div_right}
use lib.Seq.{drop-append-add}
use Rattle.std.proofs.lemmas.List.{take-append-le, drop-append-le, drop_all, drop-drop, length-drop, length-take-le, take_all, take_at}
use Rattle.std.specs.Simd.{first_chunks}
use Rattle.digest.specs.Blocks.{Holds, absorbed, left, whole}

-- a message in two parts, cut after the whole blocks of the first
module _ (size : ℕ) (pos : 0 < size) (a b : List ℕ) where
  abbrev q : ℕ
  q = length a / size

  abbrev A : List ℕ
  A = take (q * size) a

  abbrev R : List ℕ
  R = left size a ++ b

  length_A : length A ≡ q * size
  length_A = let d = div-add-mod' (length a) size in length-take-le (q * size) a (omega arith)

  cut : a ++ b ≡ A ++ R
  cut = ap (λ z. z ++ b) (sym (take-append-drop (q * size) a)) ∙ append_assoc A (left size a) b

  cut_blocks : length (A ++ R) / size ≡ q + length R / size
  cut_blocks = ap (λ z. z / size) (length-append A R ∙ ap (λ z. z + length R) length_A) ∙ mul-add-div_right pos q (length R)

  -- what is left of it
  pub left_join : left size (a ++ b) ≡ left size (left size a ++ b)
  left_join =
      let n : ℕ = length R / size * size in
      let to : length (A ++ R) / size * size ≡ length A + n =
      ap (λ z. z * size) cut_blocks ∙ add-mul q (length R / size) size ∙ ap (λ z. z + n) (sym length_A) in
      ap (left size) cut ∙ ap (λ z. drop z (A ++ R)) to ∙ drop-append-add A R n

module _ (size : ℕ) (pos : 0 < size) where
  pub left-length : (a : List ℕ) → length (left size a) ≡ length a % size
  left-length a = let d = div-add-mod' (length a) size in length-drop (length a / size * size) a ∙ omega arith

  -- nothing is left of a block
  left_first : (b x : List ℕ) → length b ≡ size → left size (b ++ x) ≡ left size x
  left_first b x l =
      let n : length b / size * size ≡ size = ap (λ z. z / size * size) l ∙ ap (λ z. z * size) (div_self pos) ∙ one-mul size in
      left_join size pos b x ∙ ap (λ z. left size (z ++ x)) (drop_all (length b / size * size) b (omega arith))

  -- and all of fewer bytes
  left_short : (a : List ℕ) → length a < size → left size a ≡ a
  left_short a h = ap (λ z. drop (z * size) a) (div-eq_of_lt h) ∙ ap (λ z. drop z a) (zero-mul size)

-- the block i of those that `as_chunks` gives
get_D_chunked : (size k i : ℕ) (bs d : List ℕ) → i < k → get_or (first_chunks size k bs) i d ≡ take size (drop (size * i) bs)
get_D_chunked size zero i bs d h = absurd (omega arith)
get_D_chunked size (suc k) zero bs d h = ap (λ z. take size (drop z bs)) (sym (mul-zero size))
get_D_chunked size (suc k) (suc i) bs d h =
    let n : size + size * i ≡ size * suc i = add_comm size (size * i) ∙ sym (mul-suc size i) in
    get_D_chunked size k i (drop size bs) d (omega arith) ∙ ap (take size) (drop-drop (size * i) size bs ∙ ap (λ z. drop z bs) n)

-- and its byte k
pub byte_chunked : (size count i k : ℕ) (bs d : List ℕ) → i < count → k < size → get_or (get_or (first_chunks size count bs) i d) k 0 ≡ get_or bs (size * i + k) 0
byte_chunked size count i k bs d h l =
    ap (λ z. get_or z k 0) (get_D_chunked size count i bs d h) ∙ get_or-take size (drop (size * i) bs) k 0 l ∙ get_or-drop (size * i) bs k 0

module _ {S : Type 0} (step : S → List ℕ → S) (size : ℕ) where
  -- one block more
  pub absorbed_more : (s r q : S) (bs : List ℕ) (n : ℕ) → r ≡ absorbed step size s bs n → q ≡ step r (take size (drop (size * n) bs))
      → q ≡ absorbed step size s bs (n + 1)
  unfolding absorbed
  absorbed_more s r q bs n e d = let m = ap (absorbed step size s bs) (add-one n) in cc

  -- the same, in a loop over the blocks that `as_chunks` gives
  pub absorbed_chunk : (s r q : S) (bs d : List ℕ) (blocks : List (List ℕ)) (k n : ℕ) → blocks ≡ first_chunks size k bs → n < k
      → r ≡ absorbed step size s bs n → q ≡ step r (get_or blocks n d) → q ≡ absorbed step size s bs (n + 1)
  absorbed_chunk s r q bs d blocks k n e h a b =
      absorbed_more s r q bs n a (b ∙ ap (λ z. step r (get_or z n d)) e ∙ ap (step r) (get_D_chunked size k n bs d h))

  -- blocks that lie in the first part
  absorbed_front : (s : S) (a b : List ℕ) (n : ℕ) → size * n ≤ length a → absorbed step size s (a ++ b) n ≡ absorbed step size s a n
  unfolding absorbed
  absorbed_front s a b zero h = refl
  absorbed_front s a b (suc n) h =
      let m = mul-suc size n in
      let d = drop-append-le (size * n) a b (omega arith) in
      let l : size ≤ length (drop (size * n) a) = simp length-drop (omega arith) in
      let t = take-append-le size (drop (size * n) a) b l in
      let i = absorbed_front s a b n (omega arith) in
      cc

  -- and those after a first part of whole blocks
  absorbed_join : (s : S) (a b : List ℕ) (m n : ℕ) → length a ≡ size * m
      → absorbed step size s (a ++ b) (m + n) ≡ absorbed step size (absorbed step size s a m) b n
  unfolding absorbed
  absorbed_join s a b m zero h = ap (absorbed step size s (a ++ b)) (add-zero m) ∙ absorbed_front s a b m (omega arith)
  absorbed_join s a b m (suc n) h =
      let k : size * (m + n) ≡ length a + size * n = mul-add size m n ∙ ap (λ z. z + size * n) (sym h) in
      let d : drop (size * (m + n)) (a ++ b) ≡ drop (size * n) b = ap (λ j. drop j (a ++ b)) k ∙ drop-append-add a b (size * n) in
      let i = absorbed_join s a b m n h in
      let e = ap (absorbed step size s (a ++ b)) (add-suc m n) in
      cc

  module _ (pos : 0 < size) where
    -- a message in two parts: the whole blocks of the first, then those of what is left of it with the second
    pub whole_join : (s : S) (a b : List ℕ) → whole step size s (a ++ b) ≡ whole step size (whole step size s a) (left size a ++ b)
    whole_join s a b =
        let n : ℕ = length a / size in
        let F : List ℕ = take (n * size) a in
        let G : List ℕ = left size a ++ b in
        let l = length_A size pos a b in
        let m = mul_comm n size in
        let f : absorbed step size s F n ≡ whole step size s a =
        sym (absorbed_front s F (left size a) n (omega arith)) ∙ ap (λ z. absorbed step size s z n) (take-append-drop (n * size) a) in
        ap (whole step size s) (cut size pos a b)
        ∙ ap (absorbed step size s (F ++ G)) (cut_blocks size pos a b)
        ∙ absorbed_join s F G n (length G / size) (l ∙ m)
        ∙ ap (λ z. whole step size z G) f

    -- a message that begins with a block
    pub whole_first : (s : S) (b x : List ℕ) → length b ≡ size → whole step size s (b ++ x) ≡ whole step size (step s b) x
    unfolding absorbed
    whole_first s b x l =
        let n : length (b ++ x) / size ≡ 1 + length x / size =
        ap (λ z. z / size) (length-append b x ∙ ap (λ z. z + length x) l) ∙ add-div_left (length x) pos ∙ add_comm (length x / size) 1 in
        let z : take size (drop (size * 0) b) ≡ b = ap (λ k. take size (drop k b)) (mul-zero size) ∙ take_all size b (omega arith) in
        ap (absorbed step size s (b ++ x)) n
        ∙ absorbed_join s b x 1 (length x / size) (l ∙ sym (mul-one size))
        ∙ ap (λ k. whole step size (step s k) x) z

    -- fewer bytes than a block has
    whole_short : (s : S) (a : List ℕ) → length a < size → whole step size s a ≡ s
    unfolding absorbed
    whole_short s a h = ap (absorbed step size s a) (div-eq_of_lt h)

    -- a hasher that was given bs
    module _ (start state : S) (buffer : List ℕ) (used : ℕ) (bs : List ℕ) (h : Holds step size start state buffer used bs) where
      used_length : used ≡ length (left size bs)
      used_length = h.count ∙ sym (left-length size pos bs)

      used_less : used < size
      used_less = let l = mod-lt (length bs) pos in omega (arith, h.count)

      -- a piece that does not fill its buffer
      pub holds_part : (x buffer' : List ℕ) (used' : ℕ) → length x < size - used
          → buffer' ≡ take used buffer ++ (x ++ drop (used + length x) buffer) → used' ≡ used + length x
          → Holds step size start state buffer' used' (bs ++ x)
      holds_part x buffer' used' small b u =
          let y : List ℕ = left size bs ++ x in
          let ly : length y ≡ used' = length-append (left size bs) x ∙ ap (λ z. z + length x) (sym used_length) ∙ sym u in
          let lt : length y < size = omega arith in
          let ll : left size (bs ++ x) ≡ y = left_join size pos bs x ∙ left_short size pos y lt in
          let D : List ℕ = drop (used + length x) buffer in
          let b_is : buffer' ≡ y ++ D = b ∙ ap (λ z. z ++ (x ++ D)) h.front ∙ sym (append_assoc (left size bs) x D) in
          record {
            blocks = h.blocks ∙ sym (whole_short (whole step size start bs) y lt) ∙ sym (whole_join start bs x);
            count = sym ly ∙ ap length (sym ll) ∙ left-length size pos (bs ++ x);
            front = ap (take used') b_is ∙ take_at y D used' ly ∙ sym ll;
            wide = ap length b_is ∙ length-append y D ∙ ap (λ z. length y + z) (length-drop (used + length x) buffer) ∙ omega (arith, h.wide);
          }

      -- one that does: `front` of it, then the whole blocks of `back`, then what is left
      pub holds_more : (x front back rest buffer₁ buffer₂ : List ℕ) (s₁ s₂ : S) (used' : ℕ) → size - used ≤ length x
          → front ≡ take (size - used) x → back ≡ drop (size - used) x → rest ≡ left size back
          → buffer₁ ≡ take used buffer ++ (front ++ drop (used + length front) buffer)
          → s₁ ≡ step state buffer₁ → s₂ ≡ whole step size s₁ back
          → buffer₂ ≡ rest ++ drop (length rest) buffer₁ → used' ≡ length back % size
          → Holds step size start s₂ buffer₂ used' (bs ++ x)
      holds_more x front back rest buffer₁ buffer₂ s₁ s₂ used' big f k r b₁ e₁ e₂ b₂ u =
          let y : List ℕ = left size bs ++ front in
          let less = used_less in
          let lu = used_length in
          let lf : length front ≡ size - used = ap length f ∙ length-take-le (size - used) x big in
          let ly : length y ≡ size = length-append (left size bs) front ∙ omega arith in
          let xs : front ++ back ≡ x = ap (λ z. z ++ back) f ∙ ap (λ z. take (size - used) x ++ z) k ∙ take-append-drop (size - used) x in
          let b₁_is : buffer₁ ≡ y =
          b₁ ∙ ap (λ z. take used buffer ++ (front ++ z)) (drop_all (used + length front) buffer (omega (arith, h.wide)))
          ∙ ap (λ z. take used buffer ++ z) (append-nil front) ∙ ap (λ z. z ++ front) h.front in
          let ys : left size bs ++ x ≡ y ++ back = ap (λ z. left size bs ++ z) (sym xs) ∙ sym (append_assoc (left size bs) front back) in
          let ll : left size (bs ++ x) ≡ rest = left_join size pos bs x ∙ ap (left size) ys ∙ left_first size pos y back ly ∙ sym r in
          let lr : length rest ≡ used' = ap length r ∙ left-length size pos back ∙ sym u in
          let lt = mod-lt (length back) pos in
          let lb : length buffer₁ ≡ size = ap length b₁_is ∙ ly in
          record {
            blocks =
                e₂ ∙ ap (λ z. whole step size z back) (e₁ ∙ ap (step state) b₁_is ∙ ap (λ z. step z y) h.blocks)
                ∙ sym (whole_first (whole step size start bs) y back ly) ∙ ap (whole step size (whole step size start bs)) (sym ys) ∙ sym (whole_join start bs x);
            count = sym lr ∙ ap length (sym ll) ∙ left-length size pos (bs ++ x);
            front = ap (take used') b₂ ∙ take_at rest (drop (length rest) buffer₁) used' lr ∙ sym ll;
            wide = ap length b₂ ∙ length-append rest (drop (length rest) buffer₁) ∙ ap (λ z. length rest + z) (length-drop (length rest) buffer₁) ∙ omega arith;
          }

      -- the end: the bytes in its buffer, and the padding
      pub holds_end : (pad : List ℕ) → whole step size state (take used buffer ++ pad) ≡ whole step size start (bs ++ pad)
      holds_end pad =
          ap (λ z. whole step size state (z ++ pad)) h.front ∙ ap (λ z. whole step size z (left size bs ++ pad)) h.blocks
          ∙ sym (whole_join start bs pad)
