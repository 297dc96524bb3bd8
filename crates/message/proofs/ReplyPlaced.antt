-- Parts of a reply by their places.
use Rattle.std.proofs.Common.{◌≡◌, ℕ, zero, suc, ◌+◌, ◌-◌, ◌*◌, ◌^◌, ◌<◌, ◌≤◌, ◌≢◌, min, List, [], ◌∷◌, ◌++◌, map, length, get_or, set, take, drop, sym, refl, ap, ◌∙◌, ⊎_elim, zero-add, arith}
use native.Mathlib.Nat.{min-eq_left}
use Rattle.std.proofs.lemmas.Bool.{cases_lt}
use Rattle.std.proofs.lemmas.List.FromFn.{map-range_with_len_more}
use Rattle.std.proofs.lemmas.List.{append_assoc, length-map, length-take, length-drop, length_push, drop-drop, get_or-set_other, get_or-set_same, get_or_append_left, get_or_push, map_more, map_push, take_all}
use Rattle.octets.proofs.Places.{put_all-push}
use Rattle.octets.specs.Field.{put_all, span}
use Rattle.octets.specs.Numbers.{big_endian}
use Rattle.message.specs.declared.place.Place.{Place}
use Rattle.message.specs.declared.reply.Entry.{Entry}
use Rattle.message.specs.Code.{code_number}
use Rattle.message.specs.Placed.{Stands, StandsTo, From, Passes}
use Rattle.message.specs.Places.{bytes_at}
use Rattle.message.specs.Reply.{Listed, entry, entries, listed, signatures}
use Rattle.message.specs.ReplyPlaced.{EntriesStand, no_place}
use Rattle.message.proofs.Placed.{passed}
use Rattle.message.proofs.Placing.{signatures_front}
use Rattle.message.proofs.Replying.{proofs_take}

-- the signature of an entry behind its other fields
pub entry_placed : (e : Entry) (start mid end : ℕ) (p : Place) → mid ≡ min (start + 3) (2 ^ 64 - 1) → Passes (λ bs. StandsTo end bs p e.signature.now) e.signature.now mid end
    → Passes (λ bs. Stands bs p e.signature.now) ((entry 0 0).put (listed e)) start end
entry_placed e start mid end p m q bs rest l h =
    let head = big_endian 1 e.site ++ (big_endian 1 (code_number e.code) ++ big_endian 1 e.register) in
    let r = q bs rest l (passed bs head (e.signature.now ++ rest) start h mid l m) in
    (r.0.0, r.1)

abbrev signature_of : Listed → List ℕ
signature_of e = e.submit_signature

-- one entry more
stand_more : (bs : List ℕ) (ps : List Place) (xs : List Listed) (p : Place) (x : Listed) (i : ℕ) → length xs ≡ i → i < length ps → EntriesStand bs ps xs → Stands bs p x.submit_signature
    → EntriesStand bs (set ps i p) (xs ++ x ∷ [])
stand_more bs ps xs p x i n w f s k h =
    let m = map_push signature_of xs x in
    let a : length (map signature_of xs) ≡ i = length-map xs signature_of ∙ n in
    let b = length_push xs x in
    ⊎_elim
    (λ (l : k < i). let ne : k ≢ i = omega arith in rw (m, get_or-set_other ps i k p no_place ne, get_or_append_left (map signature_of xs) (x.submit_signature ∷ []) [] k (omega arith)) (f k (omega arith)))
    (λ (g : i ≤ k). let e : k ≡ i = omega arith in rw (e, m, get_or-set_same ps i p no_place w, get_or_push (map signature_of xs) x.submit_signature [] i a) s)
    (cases_lt k i)

-- what stands of the first i entries
abbrev pub FirstStand : List Entry → ℕ → List Place → ℕ → ℕ → Type 0
FirstStand es i ps start end = Passes (λ bs. EntriesStand bs ps (map listed (take i es))) (put_all (entry 0 0) (map listed (take i es))) start end

pub entries_more : (es : List Entry) (i : ℕ) (d : Entry) (ps : List Place) (start mid end : ℕ) (p : Place) → i < length es → i < length ps → FirstStand es i ps start mid
    → Passes (λ bs. Stands bs p (get_or es i d).signature.now) ((entry 0 0).put (listed (get_or es i d))) mid end → FirstStand es (i + 1) (set ps i p) start end
entries_more es i d ps start mid end p h w f q bs rest l from =
    let e = get_or es i d in
    let xs = map listed (take i es) in
    let m : map listed (take (i + 1) es) ≡ xs ++ listed e ∷ [] = map_more listed es i d h in
    let put : put_all (entry 0 0) (map listed (take (i + 1) es)) ≡ put_all (entry 0 0) xs ++ (entry 0 0).put (listed e) = ap (put_all (entry 0 0)) m ∙ put_all-push (entry 0 0) xs (listed e) in
    let g : From bs start (put_all (entry 0 0) xs ++ ((entry 0 0).put (listed e) ++ rest)) = rw (put, append_assoc (put_all (entry 0 0) xs) ((entry 0 0).put (listed e)) rest) at from in
    let a = f bs ((entry 0 0).put (listed e) ++ rest) l g in
    let b = q bs rest l a.1 in
    let n : length xs ≡ i = length-map (take i es) listed ∙ length-take i es ∙ min-eq_left (omega arith) in
    (rw m (stand_more bs ps xs p (listed e) i n w a.0 b.0), b.1)

-- all entries behind their count
pub entries_placed : (es : List Entry) (i : ℕ) (ps : List Place) (start mid end : ℕ) → mid ≡ min (start + 1) (2 ^ 64 - 1) → length es ≤ i → FirstStand es i ps mid end
    → Passes (λ bs. EntriesStand bs ps (map listed es)) ((entries 0 0).put (map listed es)) start end
entries_placed es i ps start mid end e w f bs rest l h =
    let t : take i es ≡ es = take_all i es w in
    let all : Passes (λ bs. EntriesStand bs ps (map listed es)) (put_all (entry 0 0) (map listed es)) mid end = rw t at f in
    all bs rest l (passed bs (big_endian 1 (length (map listed es))) (put_all (entry 0 0) (map listed es) ++ rest) start h mid l e)

-- signatures one behind the other, from a place on
signatures-drop : (g n start : ℕ) (bs : List ℕ) → signatures g (drop start bs) n 0 ≡ signatures g bs n start
signatures-drop g zero start bs = refl
signatures-drop g (suc k) start bs =
    let n : suc k ≡ k + 1 = omega arith in
    let more : (b : List ℕ) (s : ℕ) → signatures g b (k + 1) s ≡ signatures g b k s ++ (bytes_at b (s + g * k) g ∷ []) =
    λ b s. map-range_with_len_more (λ j. bytes_at b (s + g * j) g) 0 k k (zero-add k) in
    let one : bytes_at (drop start bs) (0 + g * k) g ≡ bytes_at bs (start + g * k) g = rw (zero-add (g * k)) (ap (take g) (drop-drop (g * k) start bs)) in
    ap (λ i. signatures g (drop start bs) i 0) n ∙ more (drop start bs) 0
    ∙ ap (λ (l : List (List ℕ)). l ++ (bytes_at (drop start bs) (0 + g * k) g ∷ [])) (signatures-drop g k start bs)
    ∙ ap (λ (b : List ℕ). signatures g bs k start ++ (b ∷ [])) one
    ∙ sym (more bs start) ∙ ap (λ i. signatures g bs i start) (sym n)

pub proofs_all : (g n : ℕ) (bs : List ℕ) → length bs ≡ g * n → put_all (span g) (signatures g bs n 0) ≡ bs
proofs_all g n bs l = proofs_take g bs n ∙ take_all (g * n) bs (omega arith)

pub proofs_placed : (g n : ℕ) (bs xs : List ℕ) (p : Place) → length xs ≡ g * n → Stands bs p xs → signatures g bs n p.offset ≡ signatures g xs n 0
proofs_placed g n bs xs p l s =
    let w = s.within in
    let a : min p.length (length (drop p.offset bs)) ≡ length xs = sym (length-take p.length (drop p.offset bs)) ∙ ap length s.there in
    let d = length-drop p.offset bs in
    let m : min p.length (length (drop p.offset bs)) ≡ p.length = min-eq_left (omega arith) in
    sym (signatures-drop g n p.offset bs) ∙ sym (signatures_front g n p.length (drop p.offset bs) (omega arith)) ∙ ap (λ (b : List ℕ). signatures g b n 0) s.there
