-- The parts of a reply.
use Rattle.std.proofs.Common.{◌≡◌, ℕ, zero, suc, ◌+◌, ◌-◌, ◌*◌, ◌^◌, ◌<◌, ◌≤◌, min, List, [], ◌++◌, map, length, get_or, take, drop, Some, None, Option, unwrap_or, sym, ap, ◌∙◌, ⊎_elim, mul-zero, zero-add, mul-suc, arith}
use native.Mathlib.Nat.{min-le_left, min-eq_left, min-eq_right}
use Rattle.std.specs.Option.{option_map}
use Rattle.std.proofs.Math.Seq.{take-add}
use Rattle.std.proofs.lemmas.List.FromFn.{map-range_with_len_more}
use Rattle.std.proofs.lemmas.List.{append-nil, take_more, take_all, take_at, map_push, length-map, length-take}
use Rattle.std.proofs.lemmas.Bool.{cases_lt}
use Rattle.octets.specs.Field.{put_all, span}
use Rattle.octets.specs.Numbers.{big_endian}
use Rattle.octets.specs.Puts.{Puts, PutsOrNot}
use Rattle.octets.proofs.Places.{◌⨾◌, puts_length, put_all-push}
use Rattle.version.specs.Calls.{bytes_of}
use Rattle.version.specs.Version.{slots}
use Rattle.message.specs.declared.code.Code.TheVariants.{Read}
use Rattle.message.specs.declared.reply.Found.{Found}
use Rattle.message.specs.declared.reply_parts.ListEntry.{ListEntry}
use Rattle.message.specs.declared.reply_parts.ReplyParts.{ReplyParts}
use Rattle.message.specs.Code.{code_number}
use Rattle.message.specs.Fields.{value}
use Rattle.message.specs.Places.{bytes_at}
use Rattle.message.specs.Reply.{asked, entry, found, held, reply, signatures}
use Rattle.message.specs.Replied.{entered, responded, answer_put, entries_put, proofs_put, PutsEntry, PutsEntries}
use Rattle.message.proofs.Writing.{value_put}

-- an entry is its fields and then its signature
pub entry_put : (g : ℕ) (e : ListEntry) (head : List ℕ) (start m : ℕ) (was mid is : List ℕ) (r : Option ℕ) → g ≤ 64
    → head ≡ big_endian 1 e.site ++ (big_endian 1 (code_number e.code) ++ big_endian 1 e.register)
    → Puts head start was mid m → PutsOrNot (take g e.signature) m mid is r → PutsEntry g e start was is r
entry_put g e head start m was mid is (Some end) l h p q = rw h at (p ⨾ q)
entry_put g e head start m was mid is None l h p q =
    let k = ap length h in
    let t = length-take g e.signature in
    let u = min-le_left g (length e.signature) in
    let a = p.ends in
    let s = q.0 in
    let w = puts_length p in
    omega arith

entry_length : (g : ℕ) (e : ListEntry) → g ≤ 64 → length ((entry 0 g).put (entered g e)) ≤ 67
entry_length g e l =
    let t = length-take g e.signature in
    let u = min-le_left g (length e.signature) in
    omega arith

-- the first i entries
abbrev pub list_put : ℕ → List ListEntry → ℕ → List ℕ
list_put g es i = put_all (entry 0 g) (map (entered g) (take i es))

-- one entry more
module _ (g : ℕ) (es : List ListEntry) (i : ℕ) (d : ListEntry) (h : i < length es) where
  list_step : list_put g es (i + 1) ≡ list_put g es i ++ (entry 0 g).put (entered g (get_or es i d))
  list_step =
      ap (λ (l : List ListEntry). put_all (entry 0 g) (map (entered g) l)) (take_more es i d h) ∙ ap (put_all (entry 0 g)) (map_push (entered g) (take i es) (get_or es i d))
      ∙ put_all-push (entry 0 g) (map (entered g) (take i es)) (entered g (get_or es i d))

  pub list_more : {start : ℕ} {was mid is : List ℕ} {m n : ℕ} → g ≤ 64 → m ≤ start + 67 * i → Puts (list_put g es i) start was mid m → PutsEntry g (get_or es i d) m mid is (Some n)
      → (n ≤ start + 67 * (i + 1)) × Puts (list_put g es (i + 1)) start was is n
  list_more l b p q =
      let k = entry_length g (get_or es i d) l in
      let e = q.ends in
      (omega arith, rw list_step (p ⨾ q))

-- the entries at the front of a buffer that holds eight of them
pub first_eight : (es : List ListEntry) (k : ℕ) → k ≡ min (length es) 8 → (take k es ≡ take 8 es) × (length (take 8 es) ≤ 8)
first_eight es k e = (
  ⊎_elim
      (λ (l : length es < 8). let m : k ≡ length es = e ∙ min-eq_left (omega arith) in rw (m, take_all (length es) es (omega arith), take_all 8 es (omega arith)))
      (λ (g : 8 ≤ length es). let m : k ≡ 8 = e ∙ min-eq_right g in rw m)
      (cases_lt (length es) 8),
  (let t = length-take 8 es in let u = min-le_left 8 (length es) in omega arith),
)

pub entries_front : (g : ℕ) (es : List ListEntry) (was is : List ℕ) (r : Option ℕ) → length es ≤ 8 → length was ≡ 537 → PutsEntries g es was is r
    → (unwrap_or r 0 ≤ 537) × (take (unwrap_or r 0) is ≡ entries_put g es)
entries_front g es was is (Some end) k l p =
    let e = p.ends in
    let w = p.room in
    (omega arith, rw p.after (take_at (entries_put g es) (drop end was) end (omega arith)))
entries_front g es was is None k l p = absurd (omega arith)

-- signatures one behind the other
pub proofs_take : (g : ℕ) (bs : List ℕ) (n : ℕ) → proofs_put g bs n ≡ take (g * n) bs
proofs_take g bs zero = rw (mul-zero g)
proofs_take g bs (suc n) =
    let f : ℕ → List ℕ = λ k. bytes_at bs (0 + g * k) g in
    let a : suc n ≡ n + 1 = omega arith in
    let m : g * n + g ≡ g * suc n = omega (arith, mul-suc g n) in
    ap (proofs_put g bs) a ∙ ap (put_all (span g)) (map-range_with_len_more f 0 n n (zero-add n)) ∙ put_all-push (span g) (signatures g bs n 0) (f n)
    ∙ rw (proofs_take g bs n, zero-add (g * n)) (sym (take-add (g * n) g bs)) ∙ ap (λ (k : ℕ). take k bs) m

pub proofs_cut : (g : ℕ) (bs : List ℕ) (n size : ℕ) → length bs < 2 ^ 64 → size ≡ min (min (g * n) (2 ^ 64 - 1)) (length bs) → take size bs ≡ proofs_put g bs n
proofs_cut g bs n size l e =
    rw (proofs_take g bs n)
    (⊎_elim
    (λ (h : length bs < g * n). let m : size ≡ length bs = grind arith in rw m (take_all (length bs) bs (omega arith) ∙ sym (take_all (g * n) bs (omega arith))))
    (λ (h : g * n ≤ length bs). let m : size ≡ g * n = grind arith in rw m)
    (cases_lt (length bs) (g * n)))

-- what was found
pub found_put : (n g : ℕ) (f : Found) (version stamp size v : List ℕ) → version ≡ bytes_of f.version → stamp ≡ big_endian 4 f.timestamp → size ++ v ≡ value.put (option_map (λ x. x.now) f.value)
    → version ++ (f.commit_signature.now ++ (stamp ++ (size ++ (v ++ (f.data_signature.now ++ []))))) ≡ (found n g Read).put (Some (held f))
found_put n g f version stamp size v e s h =
    let d = f.data_signature.now in
    rw (append-nil d)
    (ap (λ (l : List ℕ). version ++ (f.commit_signature.now ++ l)) (value_put size v stamp d (option_map (λ x. x.now) f.value) h)
    ∙ rw (e, s))

-- all of a reply
pub reply_put : (g : ℕ) (m : ReplyParts) (o : Option Found) → m.found ≡ o → (head version list proofs back : List ℕ) → head ≡ answer_put (asked o) m.committer
    → version ≡ bytes_of m.version.now → list ≡ entries_put (min g 64) (take 8 m.entries.now) → proofs ≡ proofs_put g m.proofs.now (length (slots m.version.now))
    → back ≡ (found (length (slots m.version.now)) g (asked o)).put (option_map held o)
    → head ++ (version ++ (m.commit_signature.now ++ (list ++ (proofs ++ back)))) ≡ (reply (length (slots m.version.now)) g).put (responded g m)
reply_put g m o e head version list proofs back h v l p b =
    let c = length-map (take 8 m.entries.now) (entered (min g 64)) in
    rw (e, h, v, l, p, b, c)
