-- What is known of a message that was read: it has the form of the group's messages.
use Rattle.std.proofs.Common.{◌≡◌, ℕ, zero, suc, ◌^◌, ◌<◌, Bool, true, false, cond, not, ◌&&◌, ◌||◌, eqb, ltb, leb, List, [], ◌∷◌, length, get_or, Some, None, Ok, Err, Option, Result, sym, refl, ap, ◌∙◌, subst, arith}
use Rattle.std.proofs.lemmas.Bool.{and_parts, leb-true, eqb-true, cond-true}
use Rattle.octets.specs.Field.{read, GoodAll}
use Rattle.octets.specs.Numbers.{Bytes}
use Rattle.octets.proofs.Laws.{undoes}
use Rattle.message.specs.declared.code.Code.{Code}
use Rattle.message.specs.declared.code.Code.TheVariants.{Read, Write}
use Rattle.message.specs.Code.{code_number}
use Rattle.message.specs.Reply.{Listed, Held, Response, reply, entry, found}
use Rattle.message.proofs.Laws.{reply_law}
use Rattle.version.specs.Layout.{version_field, slot_field}
use Rattle.version.specs.Order.{Slot, slot_with, unseen}
use Rattle.rules.specs.Group.{Setup, Member, zeros}
use Rattle.rules.specs.Finish.{read_reply, expecting}
use Rattle.rules.specs.Shown.{is_zero, Each}

abbrev pub GoodVersion : ℕ → List Slot → Type 0
GoodVersion n v = (version_field n).Good v

-- a site or a register that passed its test is one
pub member_from : (n b : ℕ) → (leb 1 b && leb b n) ≡ true → Member n b
member_from n b h = let both = and_parts (leb 1 b) (leb b n) h in (leb-true 1 b both.0, leb-true b n both.1)

-- a slot with timestamp 0 has no digest, and one with another has 32 bytes
pub slot_unseen : (s : Slot) → slot_field.Good s → s.timestamp ≡ 0 → s ≡ unseen
slot_unseen s h e =
    let back : cond (eqb s.timestamp 0) None (Some (Rattle.version.specs.Shape.digest_bytes s.digest)) ≡ s.digest = h.0.1.1 in
    let none : None ≡ s.digest = sym (cond-true (eqb s.timestamp 0) None (Some (Rattle.version.specs.Shape.digest_bytes s.digest)) (grind arith)) ∙ back in
    λ i. slot_with (e i) (sym none i)

-- the zero version is the one with timestamp 0 throughout
pub zero_slots : (v : List Slot) → GoodAll slot_field v → is_zero v ≡ true → v ≡ zeros (length v)
zero_slots [] h z = refl
zero_slots (s ∷ v) h z =
    let both = and_parts (eqb s.timestamp 0) (is_zero v) z in
    let first : s ≡ unseen = slot_unseen s h.0 (eqb-true s.timestamp 0 both.0) in
    let rest : v ≡ zeros (length v) = zero_slots v h.1 both.1 in
    λ i. first i ∷ rest i

pub zero_version : (n : ℕ) (v : List Slot) → GoodVersion n v → is_zero v ≡ true → v ≡ zeros n
zero_version n v h z = zero_slots v h.1 z ∙ ap zeros h.0

pub zeros_zero : (n : ℕ) → is_zero (zeros n) ≡ true
zeros_zero zero = refl
zeros_zero (suc n) = zeros_zero n

-- an entry's site and register are the group's
pub record EntryFits (n : ℕ) (g : ℕ) (e : Listed) : Type 0 where
  pub site : Member n e.site
  pub register : Member n e.register
  pub signature : length e.submit_signature ≡ g

entry_fits : (n g : ℕ) (e : Listed) → (entry n g).Good e → EntryFits n g e
entry_fits n g e h = record {
  site = member_from n e.site h.0.0.1;
  register =
      member_from n e.register
      (and_parts (leb 1 e.register && leb e.register n) (Rattle.message.specs.Code.is_read e.code || eqb e.register e.site) h.0.1.1.0.1).0;
  signature = h.0.1.1.1;
}

all_fit : (n g : ℕ) (es : List Listed) → GoodAll (entry n g) es → Each (EntryFits n g) es
all_fit n g [] h = tt
all_fit n g (e ∷ es) h = (entry_fits n g e h.0, all_fit n g es h.1)

-- what was found is there exactly in a reply to a read
abbrev pub FoundFits : ℕ → ℕ → Code → Option Held → Type 0
FoundFits n g Read None = ⊥
FoundFits n g Read (Some h) = GoodVersion n h.version × (h.timestamp < 256 ^ 4)
FoundFits n g Write None = Unit {0}
FoundFits n g Write (Some h) = ⊥

found_fits : (n g : ℕ) (c : Code) (o : Option Held) → (found n g c).Good o → FoundFits n g c o
found_fits n g Read None h = let z : ◌≡◌ {A = ℕ} 0 1 = let e = h.1 in cc in absurd (omega arith)
found_fits n g Read (Some x) h = (h.0.0, h.0.1.1.0)
found_fits n g Write None h = tt
found_fits n g Write (Some x) h = let z : ◌≡◌ {A = ℕ} 0 1 = let e = h.1 in cc in absurd (omega arith)

pub record ReplyFits (p : Setup) (c : Code) (a : Response) : Type 0 where
  pub code : a.code ≡ c
  pub committer : Member p.size a.committer
  pub version : GoodVersion p.size a.version
  pub entries : Each (EntryFits p.size p.signature) a.entries
  pub proofs : length a.proofs ≡ p.size
  pub found : FoundFits p.size p.signature c a.found

same_code : (c d : Code) → eqb (code_number c) (code_number d) ≡ true → c ≡ d
same_code Read Read e = refl
same_code Read Write e = let z : ◌≡◌ {A = ℕ} 0 1 = cc in absurd (omega arith)
same_code Write Read e = let z : ◌≡◌ {A = ℕ} 0 1 = cc in absurd (omega arith)
same_code Write Write e = refl

ReadAs : Code → Response → Result Response ℕ → Type 0
ReadAs c a r = (r ≡ Ok a) × (a.code ≡ c)

refused_never : (offset : ℕ) (a : Response) (r : Result Response ℕ) → r ≡ Err offset → r ≡ Ok a → ⊥
refused_never offset a r e f = let z : ◌≡◌ {A = ℕ} 0 1 = cc in omega arith

expected : (c : Code) (bs : List ℕ) (r : Result Response ℕ) (a : Response) → expecting c bs r ≡ Ok a → ReadAs c a r
unfolding ReadAs
expected c bs (Ok x) a e = go (eqb (code_number x.code) (code_number c)) refl e
  where
    go : (t : Bool) → eqb (code_number x.code) (code_number c) ≡ t → cond {A = Result Response ℕ} t (Ok x) (Err 1) ≡ Ok a → ReadAs c a (Ok x)
    go true y f = let s : x ≡ a = cc in (f, subst (λ (z : Response). z.code ≡ c) s (same_code x.code c y))
    go false y f = absurd (refused_never 1 a (Err 1) refl f)
expected c bs (Err offset) a e = go (ltb 1 offset && not (eqb (get_or bs 1 0) (code_number c))) e
  where
    go : (t : Bool) → cond {A = Result Response ℕ} t (Err 1) (Err offset) ≡ Ok a → ReadAs c a (Err offset)
    go true f = absurd (refused_never 1 a (Err 1) refl f)
    go false f = absurd (refused_never offset a (Err offset) refl f)

-- the reply that a finish reads
pub reply_is : (p : Setup) (c : Code) (bs : List ℕ) (a : Response) → read_reply p c bs ≡ Ok a → (read (reply p.size p.signature) bs ≡ Ok a) × (a.code ≡ c)
unfolding ReadAs
reply_is p c bs a e = expected c bs (read (reply p.size p.signature) bs) a e

pub reply_fits : (p : Setup) (c : Code) (bs : List ℕ) (a : Response) → Bytes bs → read_reply p c bs ≡ Ok a → ReplyFits p c a
reply_fits p c bs a b e =
    let r = reply_is p c bs a e in
    let h : (reply p.size p.signature).Good a = ((undoes (reply_law p.size p.signature)).writing bs a b r.0).1 in
    record {
      code = r.1;
      committer = member_from p.size a.committer h.0.0.1.1.1;
      version = h.0.1.0;
      entries = all_fit p.size p.signature a.entries h.0.1.1.1.0.0.1.1;
      proofs = h.0.1.1.1.1.0.0;
      found = subst (λ (z : Code). FoundFits p.size p.signature z a.found) r.1 (found_fits p.size p.signature a.code a.found h.0.1.1.1.1.1);
    }
