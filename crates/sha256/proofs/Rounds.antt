-- the words of a schedule, and the rounds one by one
use Rattle.std.proofs.Common.{◌≡◌, ℕ, zero, suc, ◌+◌, ◌-◌, ◌<◌, ◌≤◌, List, [], ◌∷◌, length, get_or, sym, refl, ap, ◌∙◌, ⊎_elim, add-zero, add-suc, add-one, arith}
use lib.Lanes.{zip2}
use Rattle.std.proofs.lemmas.List.{get_or_append_left, get_or_at, length_push}
use Rattle.std.proofs.lemmas.Bool.{cases_lt}
use Rattle.sha256.specs.declared.compression.State.{State}
use Rattle.sha256.specs.Compression.{Constants, next_word, one_round, rounds, schedule, word_at, words}
use Rattle.sha256.specs.Window.{Scheduled, four_at}
use Rattle.sha256.specs.Words.{plus}

schedule-length : (m : List ℕ) (n : ℕ) → length (schedule m n) ≡ length m + n
unfolding schedule
schedule-length m zero = sym (add-zero (length m))
schedule-length m (suc n) =
    let e = length_push (schedule m n) (next_word (schedule m n) n) in
    let i = schedule-length m n in
    omega arith

-- a longer schedule begins as a shorter one
longer : (m : List ℕ) (n j i : ℕ) → i < length m + n → get_or (schedule m (n + j)) i 0 ≡ get_or (schedule m n) i 0
unfolding schedule
longer m n zero i h = ap (λ k. get_or (schedule m k) i 0) (add-zero n)
longer m n (suc j) i h =
    let l = schedule-length m (n + j) in
    ap (λ k. get_or (schedule m k) i 0) (add-suc n j)
    ∙ get_or_append_left (schedule m (n + j)) (next_word (schedule m (n + j)) (n + j) ∷ []) 0 i (omega arith)
    ∙ longer m n j i h

within : (m : List ℕ) (n k i : ℕ) → n ≤ k → i < length m + n → get_or (schedule m k) i 0 ≡ get_or (schedule m n) i 0
within m n k i le h =
    let e : k ≡ n + (k - n) = omega arith in
    ap (λ z. get_or (schedule m z) i 0) e ∙ longer m n (k - n) i h

-- each word of the whole schedule comes from those before it
scheduled : (m : List ℕ) → length m ≡ 16 → Scheduled (schedule m 48)
unfolding schedule
scheduled m l t h =
    let n = schedule-length m t in
    let a = within m (suc t) 48 (t + 16) (omega arith) (omega arith) in
    let b : get_or (schedule m (suc t)) (t + 16) 0 ≡ next_word (schedule m t) t =
    get_or_at (schedule m t) (next_word (schedule m t) t) [] 0 (t + 16) (omega arith) in
    let w₀ = within m t 48 t (omega arith) (omega arith) in
    let w₁ = within m t 48 (t + 1) (omega arith) (omega arith) in
    let w₉ = within m t 48 (t + 9) (omega arith) (omega arith) in
    let w₁₄ = within m t 48 (t + 14) (omega arith) (omega arith) in
    cc

words-length : (bs : List ℕ) (n : ℕ) → length (words bs n) ≡ n
unfolding words
words-length bs zero = refl
words-length bs (suc n) = length_push (words bs n) (word_at bs n) ∙ ap (λ z. z + 1) (words-length bs n) ∙ add-one n

get_d_words : (bs : List ℕ) (n i : ℕ) → i < n → word_at bs i ≡ get_or (words bs n) i 0
unfolding words
get_d_words bs zero i h = absurd (omega arith)
get_d_words bs (suc n) i h =
    let l = words-length bs n in
    ⊎_elim
    (λ b. get_d_words bs n i b ∙ sym (get_or_append_left (words bs n) (word_at bs n ∷ []) 0 i (omega arith)))
    (λ b. let e : i ≡ n = omega arith in ap (word_at bs) e ∙ sym (get_or_at (words bs n) (word_at bs n) [] 0 i (omega arith)))
    (cases_lt i n)

-- the schedule of a block: each word comes from those before it
pub block_scheduled : (bs : List ℕ) → Scheduled (schedule (words bs 16) 48)
block_scheduled bs = scheduled (words bs 16) (words-length bs 16)

-- and the first are those of the block
pub block_word : (bs : List ℕ) (i : ℕ) → i < 16 → word_at bs i ≡ get_or (schedule (words bs 16) 48) i 0
unfolding schedule
block_word bs i h =
    let l = words-length bs 16 in
    get_d_words bs 16 i h ∙ sym (within (words bs 16) 0 48 i (omega arith) (omega arith))

-- the four sums of a constant and a word, as the rounds read them
pub sums : (W : List ℕ) (t : ℕ) (k w : List ℕ) → k ≡ four_at Constants t → w ≡ four_at W t
    → (let x : List ℕ = zip2 plus k w in
    (get_or x 0 0 ≡ plus (get_or Constants t 0) (get_or W t 0)) × (get_or x 1 0 ≡ plus (get_or Constants (t + 1) 0) (get_or W (t + 1) 0))
    × (get_or x 2 0 ≡ plus (get_or Constants (t + 2) 0) (get_or W (t + 2) 0)) × (get_or x 3 0 ≡ plus (get_or Constants (t + 3) 0) (get_or W (t + 3) 0)))
unfolding four_at
sums W t k w e d = rw (e, d) (refl, refl, refl, refl)

-- one round more
pub rounds_more : (w : List ℕ) (q s r : State) (i i' j : ℕ) → s ≡ rounds w q i → r ≡ one_round s (get_or Constants i' 0) (get_or w i' 0) → i' ≡ i → j ≡ i + 1
    → r ≡ rounds w q j
unfolding rounds
rounds_more w q s r i i' j e d f n = let m = ap (rounds w q) (n ∙ add-one i) in cc
