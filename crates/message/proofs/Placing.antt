-- Where a reply that was read has the value that was found.
use Rattle.std.proofs.Common.{◌≡◌, ℕ, zero, suc, ◌+◌, ◌-◌, ◌*◌, ◌<◌, ◌≤◌, List, [], ◌∷◌, ◌++◌, length, take, drop, IfOk, Some, None, Ok, Err, Option, Result, sym, refl, ap, ◌∙◌, zero-add, mul-one, mul-suc, mul-add, arith}
use Rattle.std.proofs.lemmas.List.FromFn.{map-range_with_len_more}
use Rattle.std.proofs.lemmas.List.{append_assoc, length-append, length-drop, drop_at, take_at, take-take, drop-take, drop-drop}
use Rattle.std.specs.Option.{option_map}
use Rattle.octets.specs.Field.{good, span, put_all}
use Rattle.octets.specs.Numbers.{Bytes, big_endian}
use Rattle.octets.proofs.Laws.{undoes, cut_inv}
use Rattle.octets.proofs.Loops.{Left, left_more}
use Rattle.version.specs.Layout.{version_field}
use Rattle.message.specs.declared.refusal.Refusal.{Refusal}
use Rattle.message.specs.declared.code.Code.TheVariants.{Read}
use Rattle.message.specs.declared.reply.Found.{Found}
use Rattle.message.specs.declared.reply.Reply.{Reply}
use Rattle.message.specs.Fields.{value}
use Rattle.message.specs.Heads.{reply_head}
use Rattle.message.specs.Places.{bytes_at, ValueBefore}
use Rattle.message.specs.Reads.{Reads}
use Rattle.message.specs.Reply.{Held, Response, entries, found, reply, asked, held, response, signatures, FoundBefore}
use Rattle.message.proofs.Laws.{reply_law}

-- a part with another in front of it and the last one behind it
before : (bs xs v ds : List ℕ) (g : ℕ) → (xs ++ v) ++ ds ≡ bs → length ds ≡ g → ValueBefore g bs (Some v)
before bs xs v ds g e l =
    let f : xs ++ (v ++ ds) ≡ bs = sym (append_assoc xs v ds) ∙ e in
    let m : length bs ≡ length xs + (length v + length ds) = sym (ap length f) ∙ simp length-append (omega arith) in
    let n : length bs - (length v + g) ≡ length xs = omega arith in
    (omega arith, rw (n, ← f, drop_at xs (v ++ ds) (length xs) (omega arith), take_at v ds (length v) (omega arith)))

behind : (xs ys zs bs : List ℕ) → xs ++ (ys ++ zs) ≡ bs → (xs ++ ys) ++ zs ≡ bs
behind xs ys zs bs e = append_assoc xs ys zs ∙ e

-- the value of what was found, which ends the bytes
module _ (n g : ℕ) (bs : List ℕ) where
  found_last : (h : Held) (xs : List ℕ) → xs ++ (found n g Read).put (Some h) ≡ bs → (found n g Read).Good (Some h) → ValueBefore g bs h.value
  found_last h xs e k = go h.value e
    where
      go : (o : Option (List ℕ)) → xs ++ ((version_field n).put h.version ++ (h.commit_signature ++ (big_endian 4 h.timestamp ++ (value.put o ++ h.data_signature)))) ≡ bs → ValueBefore g bs o
      go None e = tt
      go (Some v) e =
          let w = big_endian 2 (length v + 1) in
          let a = behind xs ((version_field n).put h.version) _ bs e in
          let b = behind _ h.commit_signature _ bs a in
          let c = behind _ (big_endian 4 h.timestamp) _ bs b in
          let d = behind _ (w ++ v) h.data_signature bs c in
          before bs _ v h.data_signature g (ap (λ (l : List ℕ). l ++ h.data_signature) (append_assoc _ w v) ∙ d) k.0.1.1.1.1

-- what is put in front of it
abbrev front : ℕ → ℕ → Response → List ℕ
front n g m =
    (((((reply_head n).put (tt, (m.code, m.committer)) ++ (version_field n).put m.version) ++ m.commit_signature) ++ (entries n g).put m.entries) ++ put_all (span g) m.proofs)

put_front : (n g : ℕ) (m : Response) (bs : List ℕ) → (reply n g).put m ≡ bs → front n g m ++ (found n g m.code).put m.found ≡ bs
put_front n g m bs e =
    let head = (reply_head n).put (tt, (m.code, m.committer)) in
    let version = (version_field n).put m.version in
    let list = (entries n g).put m.entries in
    let proofs = put_all (span g) m.proofs in
    let back = (found n g m.code).put m.found in
    let a = behind head version (m.commit_signature ++ (list ++ (proofs ++ back))) bs e in
    let b = behind (head ++ version) m.commit_signature (list ++ (proofs ++ back)) bs a in
    let c = behind ((head ++ version) ++ m.commit_signature) list (proofs ++ back) bs b in
    behind (((head ++ version) ++ m.commit_signature) ++ list) proofs back bs c

pub reply_placed : (n g : ℕ) (bs : List ℕ) (r : Result Reply Refusal) → Bytes bs → Reads n (reply n g) (response g n) bs r → IfOk r (λ m. FoundBefore g bs m.found)
reply_placed n g bs (Err e) b h = tt
reply_placed n g bs (Ok m) b h =
    let x = (undoes (reply_law n g)).writing bs (response g n m) b h.1 in
    go m.found (put_front n g (response g n m) bs x.0) x.1.0.1.1.1.1.1
  where
    go : (o : Option Found) → front n g (response g n m) ++ (found n g (asked o)).put (option_map held o) ≡ bs → (found n g (asked o)).Good (option_map held o) → FoundBefore g bs o
    go None e k = tt
    go (Some f) e k = found_last n g bs (held f) (front n g (response g n m)) e k

-- one signature more
pub signatures_more : (g n k : ℕ) (bs rest behind found : List ℕ) → k < n → g * k ≤ length bs → rest ≡ drop (g * k) bs → Left (span g) n bs k (signatures g bs k 0) rest → (span g).get rest ≡ good found behind
    → (g * (k + 1) ≤ length bs) × (behind ≡ drop (g * (k + 1)) bs) × Left (span g) n bs (k + 1) (signatures g bs (k + 1) 0) behind
signatures_more g n k bs rest behind found h s r l e =
    let m : g * (k + 1) ≡ g * k + g = mul-add g k 1 ∙ ap (λ x. g * k + x) (mul-one g) in
    let i = cut_inv g (take g rest) rest e in
    let f : bytes_at bs (0 + g * k) g ≡ found = rw (zero-add (g * k), ← r) i.1 in
    let w = i.0 in
    let d = length-drop (g * k) bs in
    let q = ap length r in (
      rw m (omega arith),
      rw m (sym i.2 ∙ ap (drop g) r ∙ drop-drop g (g * k) bs),
      rw (map-range_with_len_more (λ j. bytes_at bs (0 + g * j) g) 0 k k (zero-add k), f) (left_more (span g) n bs k (signatures g bs k 0) rest found behind h l e),
    )

-- the first n signatures are read off the bytes of at least n
pub signatures_front : (g n m : ℕ) (bs : List ℕ) → g * n ≤ m → signatures g (take m bs) n 0 ≡ signatures g bs n 0
signatures_front g zero m bs h = refl
signatures_front g (suc k) m bs h =
    let n : suc k ≡ k + 1 = omega arith in
    let w : g * k + g ≤ m = omega (arith, mul-suc g k) in
    let r = m - g * k in
    let e : m ≡ g * k + r = omega arith in
    let p : bytes_at (take m bs) (0 + g * k) g ≡ bytes_at bs (0 + g * k) g =
    rw (zero-add (g * k)) (ap (take g) (ap (λ x. drop (g * k) (take x bs)) e ∙ drop-take (g * k) r bs) ∙ take-take g r (drop (g * k) bs) (omega arith)) in
    let more : (b : List ℕ) → signatures g b (k + 1) 0 ≡ signatures g b k 0 ++ (bytes_at b (0 + g * k) g ∷ []) =
    λ b. map-range_with_len_more (λ j. bytes_at b (0 + g * j) g) 0 k k (zero-add k) in
    let q : signatures g (take m bs) k 0 ++ (bytes_at (take m bs) (0 + g * k) g ∷ []) ≡ signatures g bs k 0 ++ (bytes_at bs (0 + g * k) g ∷ []) =
    ap (λ (l : List (List ℕ)). l ++ (bytes_at (take m bs) (0 + g * k) g ∷ [])) (signatures_front g k m bs (omega arith))
    ∙ ap (λ (b : List ℕ). signatures g bs k 0 ++ (b ∷ [])) p in
    ap (λ i. signatures g (take m bs) i 0) n ∙ more (take m bs) ∙ q ∙ sym (more bs) ∙ ap (λ i. signatures g bs i 0) (sym n)
