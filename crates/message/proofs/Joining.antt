-- Parts one behind the other.
use Rattle.std.proofs.Common.{◌≡◌, ℕ, ◌+◌, ◌<◌, ◌≤◌, List, [], ◌∷◌, ◌++◌, length, get_or, take, drop, Some, None, Option, unwrap_or, sym, refl, ap, ◌∙◌, arith, Bor}
use Rattle.std.proofs.lemmas.List.{append_assoc, append-nil, length-append, take-append-drop, take_more, take_at}
use Rattle.std.proofs.lemmas.List.FromFn.{length-map-range_with_len}
use Rattle.octets.specs.Puts.{PutsOrNot}
use Rattle.version.specs.declared.version.Version.{Version}
use Rattle.version.specs.Calls.{bytes_of}
use Rattle.version.specs.Version.{slots, slot_of}
use Rattle.version.proofs.LayoutLaws.{version-length}
use Rattle.message.specs.Writes.{joined}

joined-append : (ps qs : List (Bor (List ℕ))) → joined (ps ++ qs) ≡ joined ps ++ joined qs
joined-append [] qs = refl
joined-append (p ∷ ps) qs = ap (λ (l : List ℕ). p.now ++ l) (joined-append ps qs) ∙ sym (append_assoc p.now (joined ps) (joined qs))

-- the part at a place, none past the end
abbrev pub part_at : List (Bor (List ℕ)) → ℕ → List ℕ
part_at ps i = (get_or ps i (record { ref_ptr = (0, 0); now = [] })).now

-- one part more
pub joined_more : (ps : List (Bor (List ℕ))) (i : ℕ) → i < length ps → joined (take (i + 1) ps) ≡ joined (take i ps) ++ part_at ps i
joined_more ps i h =
    ap joined (take_more ps i _ h) ∙ joined-append (take i ps) (get_or ps i _ ∷ []) ∙ ap (λ (l : List ℕ). joined (take i ps) ++ l) (append-nil (part_at ps i))

pub joined_length : (ps : List (Bor (List ℕ))) (i : ℕ) → i < length ps → length (joined (take (i + 1) ps)) ≡ length (joined (take i ps)) + length (part_at ps i)
joined_length ps i h = ap length (joined_more ps i h) ∙ length-append (joined (take i ps)) (part_at ps i)

-- some of the parts are no longer than all of them
pub joined_front : (ps : List (Bor (List ℕ))) (i : ℕ) → length (joined (take i ps)) ≤ length (joined ps)
joined_front ps i =
    let e : joined (take i ps) ++ joined (drop i ps) ≡ joined ps = sym (joined-append (take i ps) (drop i ps)) ∙ ap joined (take-append-drop i ps) in
    omega (arith, simp length-append at (ap length e))

-- a version is of at most eight sites
sites : (v : Version) → length (slots v) ≤ 8
unfolding slots
sites v =
    let z = v.sized in
    let l = length-map-range_with_len (slot_of v) 0 v.size in
    omega arith

-- a version at the front of a buffer that holds every version
pub version_front : (v : Version) (was is : List ℕ) (r : Option ℕ) → length was ≡ 288 → PutsOrNot (bytes_of v) 0 was is r → (unwrap_or r 0 ≤ 288) × (take (unwrap_or r 0) is ≡ bytes_of v)
version_front v was is (Some end) l p =
    let e = p.ends in
    let w = p.room in
    (omega arith, rw p.after (take_at (bytes_of v) (drop end was) end (omega arith)))
version_front v was is None l p =
    let n = version-length v in
    let s = sites v in
    let k = p.0 in
    absurd (omega arith)
