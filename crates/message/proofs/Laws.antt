-- The fields of messages read back what they wrote, and write back what they read: one line for each field.
use Rattle.std.proofs.Common.{◌≡◌, ℕ, zero, suc, ◌+◌, ◌-◌, Bool, true, false, cond, ◌||◌, eqb, List, [], ◌∷◌, length, None, refl, ap, arith}
use Rattle.octets.proofs.Laws.{Lawful, nothing_law, numeral_law, span_law, only_law, then_law, joint_law, shaped_law, times_law}
use Rattle.version.proofs.LayoutLaws.{version_law}
use Rattle.message.specs.declared.code.Code.{Code}
use Rattle.message.specs.declared.code.Code.TheVariants.{Read, Write}
use Rattle.message.specs.Code.{code_number}
use Rattle.message.specs.Fields.{kind, code, value, sized_value, value_sized}
use Rattle.message.specs.Commit.{commit}
use Rattle.message.specs.Heads.{submit_head, reply_head, commit_head}
use Rattle.message.specs.Reply.{entry, entries, found, reply}
use Rattle.message.specs.Slots.{value_slot, version_slot}
use Rattle.message.specs.Submit.{submit}

same : {a k : ℕ} → eqb a k ≡ true → k ≡ a
same e = grind arith

kind_law : (k : ℕ) → Lawful (kind k)
kind_law k = shaped_law _ _ (only_law _ (numeral_law 1)) (λ a h. same h.1)

code_law : Lawful code
code_law = shaped_law _ code_number (only_law _ (numeral_law 1)) (λ b h. numbered b h.1)
  where
    numbered : (b : ℕ) → (eqb b 1 || eqb b 2) ≡ true → code_number (cond (eqb b 1) Read Write) ≡ b
    numbered b h = go (eqb b 1) refl h
      where
        go : (t : Bool) → eqb b 1 ≡ t → (t || eqb b 2) ≡ true → code_number (cond t Read Write) ≡ b
        go true e h = same e
        go false e h = same h

value_law : Lawful value
value_law = joint_law (shaped_law sized_value value_sized (then_law (only_law _ (numeral_law 2)) λ size. span_law (size - 1)) (λ p h. back p.0 p.1 h.1))
  where
    back : (k : ℕ) (v : List ℕ) → length v ≡ k - 1 → value_sized (sized_value (k, v)) ≡ (k, v)
    back zero [] l = refl
    back zero (x ∷ v) l = absurd (omega arith)
    back (suc k) v l = let e : length v + 1 ≡ suc k = omega arith in rw e

submit_head_law : (n : ℕ) → Lawful (submit_head n)
submit_head_law n = then_law (kind_law 1) λ _. then_law (only_law _ (numeral_law 1)) λ s. then_law code_law λ c. only_law _ (numeral_law 1)

reply_head_law : (n : ℕ) → Lawful (reply_head n)
reply_head_law n = then_law (kind_law 2) λ _. then_law code_law λ _. only_law _ (numeral_law 1)

commit_head_law : (n : ℕ) → Lawful (commit_head n)
commit_head_law n = then_law (kind_law 3) λ _. only_law _ (numeral_law 1)

pub submit_law : (n g : ℕ) → Lawful (submit n g)
submit_law n g =
    shaped_law _ _
    (then_law (submit_head_law n) λ h.
    then_law (numeral_law 4) λ _.
    then_law (span_law g) λ _.
    then_law (only_law _ value_law) λ _.
    span_law g)
    (λ a h. refl)

pub commit_law : (n g : ℕ) → Lawful (commit n g)
commit_law n g = shaped_law _ _ (then_law (commit_head_law n) λ _. then_law (version_law n) λ _. then_law (span_law g) λ _. span_law g) (λ a h. refl)

pub value_slot_law : (g : ℕ) → Lawful (value_slot g)
value_slot_law g = shaped_law _ _ (then_law (numeral_law 4) λ _. then_law value_law λ _. span_law g) (λ a h. refl)

pub version_slot_law : (n g : ℕ) → Lawful (version_slot n g)
version_slot_law n g = shaped_law _ _ (then_law (version_law n) λ _. then_law (span_law g) λ _. span_law g) (λ a h. refl)

entry_law : (n g : ℕ) → Lawful (entry n g)
entry_law n g =
    shaped_law _ _
    (then_law (only_law _ (numeral_law 1)) λ s.
    then_law code_law λ c.
    then_law (only_law _ (numeral_law 1)) λ _.
    span_law g)
    (λ a h. refl)

entries_law : (n g : ℕ) → Lawful (entries n g)
entries_law n g = shaped_law _ _ (then_law (only_law _ (numeral_law 1)) λ m. times_law (entry_law n g) m) (λ p h. ap (λ k. (k, p.1)) h.1.0)

found_law : (n g : ℕ) (c : Code) → Lawful (found n g c)
found_law n g Read =
    shaped_law _ _
    (then_law (version_law n) λ _.
    then_law (span_law g) λ _.
    then_law (numeral_law 4) λ _.
    then_law value_law λ _.
    span_law g)
    (λ a h. refl)
found_law n g Write = shaped_law (λ _. None) (λ _. tt) nothing_law (λ a h. refl)

pub reply_law : (n g : ℕ) → Lawful (reply n g)
reply_law n g =
    shaped_law _ _
    (then_law (reply_head_law n) λ h.
    then_law (version_law n) λ _.
    then_law (span_law g) λ _.
    then_law (entries_law n g) λ _.
    then_law (times_law (span_law g) n) λ _.
    found_law n g h.1.0)
    (λ a h. refl)
