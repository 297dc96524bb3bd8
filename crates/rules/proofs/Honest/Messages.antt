-- Messages and slots that have the form of the group's messages, and that a slot reads as what was written to it.
use Rattle.std.proofs.Common.{◌≡◌, ℕ, ◌+◌, ◌^◌, ◌<◌, ◌≤◌, true, ◌&&◌, ◌||◌, eqb, leb, List, length, Some, None, Ok, Option, sym, refl, ap, ◌∙◌, subst₂, add-one, arith}
use Rattle.std.proofs.lemmas.Bool.{and_from, and_parts, le-leb, eq-eqb}
use Rattle.octets.specs.Field.{Field, read}
use Rattle.octets.proofs.Laws.{Lawful, undoes}
use Rattle.message.specs.declared.code.Code.{Code}
use Rattle.message.specs.declared.code.Code.TheVariants.{Read, Write}
use Rattle.message.specs.Code.{is_read}
use Rattle.message.specs.Commit.{Commitment, commit}
use Rattle.message.specs.Fields.{site, code, register, value, sized_value, written}
use Rattle.message.specs.Heads.{submit_head}
use Rattle.message.specs.Reply.{entry}
use Rattle.message.specs.Slots.{value_slot, version_slot}
use Rattle.message.specs.Submit.{Submission, submit}
use Rattle.store.specs.Meaning.{StoreMeaning}
use Rattle.rules.specs.Group.{Setup, Member}
use Rattle.rules.specs.Begin.{Request, read_of, write_of, code_of, register_of, value_of, Short}
use Rattle.rules.specs.Taking.{value_at, value_with, stored, entry_of, version_stored}
use Rattle.rules.proofs.Reading.{GoodVersion, member_from}

-- what was written reads back as itself
pub reads_back : {A : Type 0} {f : Field A} → Lawful f → (a b : A) (bs : List ℕ) → f.Good a → bs ≡ f.put a → read f bs ≡ Ok b → b ≡ a
reads_back {A} {f} F a b bs h e r = let back : read f bs ≡ Ok a = ap (read f) e ∙ (undoes F).reading a h in cc

pub site_good : (n i : ℕ) → n ≤ 8 → Member n i → (site n).Good i
site_good n i small is = (omega arith, and_from (leb 1 i) (leb i n) (le-leb 1 i is.0) (le-leb i n is.1))

pub code_good : (c : Code) → code.Good c
code_good Read = ((omega arith, refl), refl)
code_good Write = ((omega arith, refl), refl)

pub absent_good : value.Good None
absent_good = (((omega arith, refl), refl), refl)

pub present_good : (v : List ℕ) → length v ≤ 512 → value.Good (Some v)
present_good v short = (((omega arith, le-leb (length v + 1) 513 (omega arith)), omega arith), ap (λ (k : ℕ). sized_value (k, v)) (add-one (length v)))

-- a register that the site may name
pub register_good : (n s r : ℕ) (c : Code) → n ≤ 8 → Member n r → (c ≡ Write → r ≡ s) → (register n s c).Good r
register_good n s r c small is own =
    (omega arith, and_from (leb 1 r && leb r n) (is_read c || eqb r s) (and_from (leb 1 r) (leb r n) (le-leb 1 r is.0) (le-leb r n is.1)) (go c own))
  where
    go : (c : Code) → (c ≡ Write → r ≡ s) → (is_read c || eqb r s) ≡ true
    go Read own = refl
    go Write own = eq-eqb r s (own refl)

-- what a request writes, and where
value_good : (q : Request) → Short q → (written (code_of q)).Good (value_of q)
value_good (read_of r) short = (absent_good, refl)
value_good (write_of v) short = (present_good v short, refl)

own_register : (q : Request) (s r : ℕ) (c : Code) → c ≡ code_of q → r ≡ register_of s q → c ≡ Write → r ≡ s
own_register (read_of x) s r c e f w = let z : ◌≡◌ {A = ℕ} 0 1 = cc in absurd (omega arith)
own_register (write_of x) s r c e f w = f

-- a submit of a request that is within its limits
pub submit_good :
    (n g : ℕ) (a : Submission) (q : Request) → n ≤ 8 → Member n a.site → Member n a.register → a.code ≡ code_of q
    → a.register ≡ register_of a.site q → a.value ≡ value_of q → Short q → a.timestamp < 256 ^ 4 → length a.submit_signature ≡ g
    → length a.data_signature ≡ g → (submit n g).Good a
submit_good n g a q small site_is register_is c r v short t s d = ((head, (t, (s, (put, d)))), refl)
  where
    head : (submit_head n).Good (tt, (a.site, (a.code, a.register)))
    head = (((omega arith, refl), refl), (site_good n a.site small site_is, (code_good a.code, named)))
      where
        named : (register n a.site a.code).Good a.register
        named = register_good n a.site a.register a.code small register_is (own_register q a.site a.register a.code c r)

    put : (written a.code).Good a.value
    put = subst₂ (λ (x : Code) (y : Option (List ℕ)). (written x).Good y) (sym c) (sym v) (value_good q short)

-- the parts of a submit that has the form
module _ (n g : ℕ) (a : Submission) (h : (submit n g).Good a) where
  pub site_of : Member n a.site
  site_of = member_from n a.site h.0.0.1.0.1

  pub register_of_it : Member n a.register
  register_of_it =
      member_from n a.register (and_parts (leb 1 a.register && leb a.register n) (is_read a.code || eqb a.register a.site) h.0.0.1.1.1.1).0

  pub timestamp_fits : a.timestamp < 256 ^ 4
  timestamp_fits = h.0.1.0

  pub value_fits : value.Good a.value
  value_fits = h.0.1.1.1.0.0

  pub data_signature_fits : length a.data_signature ≡ g
  data_signature_fits = h.0.1.1.1.1

  -- its entry has the form too
  pub entry_good : (entry n g).Good (entry_of a)
  entry_good = ((h.0.0.1.0, (h.0.0.1.1.0, (h.0.0.1.1.1, h.0.1.1.0))), refl)

-- a commit, and the two slots
pub commit_good :
    (n g : ℕ) (c : Commitment) → n ≤ 8 → Member n c.site → GoodVersion n c.version → length c.commit_signature ≡ g
    → length c.proof_signature ≡ g → (commit n g).Good c
commit_good n g c small is v s t = (((((omega arith, refl), refl), site_good n c.site small is), (v, (s, t))), refl)

pub committer_of : (n g : ℕ) (c : Commitment) → (commit n g).Good c → Member n c.site
committer_of n g c h = member_from n c.site h.0.0.1.1

-- what a commit makes of its site's slot
pub version_stored_good : (n g : ℕ) (c : Commitment) → (commit n g).Good c → (version_slot n g).Good (version_stored c)
version_stored_good n g c h = (h.0.1, refl)

-- what a submit makes of its site's slot
pub stored_good :
    (p : Setup) (m : StoreMeaning) (a : Submission) → (submit p.size p.signature).Good a → (value_slot p.signature).Good (value_at p m a.site)
    → (value_slot p.signature).Good (stored p m a)
stored_good p m a h old = ((timestamp_fits p.size p.signature a h, (kept a.code, data_signature_fits p.size p.signature a h)), refl)
  where
    kept : (c : Code) → value.Good (value_with c a.value (value_at p m a.site).value)
    kept Read = old.0.1.0
    kept Write = value_fits p.size p.signature a h
