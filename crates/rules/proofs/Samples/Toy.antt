-- A group of two sites over a small digest, a scheme that takes every signature, and an empty store, for sample runs.
use Rattle.std.proofs.Common.{◌≡◌, ℕ, zero, suc, ◌≤◌, Bool, true, false, cond, ◌&&◌, eqb, ltb, leb, ◌⊎◌, List, [], ◌∷◌, ◌++◌, reverse, length, take, replicate, sym, refl, ap, ◌∙◌, subst, inl, inr, le_refl, arith, lit<, lit≤, length-append}
use lib.ListN.{length-replicate}
use Rattle.std.proofs.lemmas.List.{length-take-le}
use Rattle.std.proofs.lemmas.Bool.{and_parts, leb-true, eqb-true, ltb-true, cases_eq, cond-true, cond-false, eq-eqb, ne_eqb, both_ways}
use Rattle.octets.specs.Numbers.{Bytes}
use Rattle.signature.specs.Calls.{Made}
use Rattle.signature.specs.Meaning.{SchemeMeaning, Fits}
use Rattle.store.specs.Calls.{Replaced}
use Rattle.store.specs.Meaning.{StoreMeaning, Sound}
use Rattle.store.specs.declared.slot.Slot.{Slot as StoreSlot}
use Rattle.store.specs.declared.slot.Slot.TheVariants.{Value, Version}
use Rattle.rules.specs.Group.{Setup, SiteState, HostState, GroupState, Group, SoundParts, Started, new_site, new_host}
use Rattle.rules.specs.Runs.{OnlySite}

-- the last 32 bytes, the last one first
abbrev pub H : List ℕ → List ℕ
H bs = take 32 (reverse bs ++ replicate 32 0)

wide : (bs : List ℕ) → length (H bs) ≡ 32
wide bs = length-take-le 32 (reverse bs ++ replicate 32 0) (simp (length-append, length-replicate) (omega arith))

-- every signature of one byte within the limits is valid
abbrev pub toy_valid : ℕ → List ℕ → List ℕ → Bool
toy_valid i t s = (leb 1 i && leb i 8) && (leb (length t) 320 && eqb (length s) 1)

abbrev pub toy : SchemeMeaning
toy = record { valid = toy_valid; left = λ i. 100 }

pub toy_fits : (i : ℕ) (t s : List ℕ) → toy_valid i t s ≡ true → Fits 1 i t s
toy_fits i t s v =
    let both = and_parts (leb 1 i && leb i 8) (leb (length t) 320 && eqb (length s) 1) v in
    let one = and_parts (leb 1 i) (leb i 8) both.0 in
    let two = and_parts (leb (length t) 320) (eqb (length s) 1) both.1 in
    record { ranged = (leb-true 1 i one.0, leb-true i 8 one.1); short = leb-true (length t) 320 two.0; sized = eqb-true (length s) 1 two.1 }

abbrev pub sig : List ℕ
sig = 0 ∷ []

pub toy_made : (i : ℕ) (t : List ℕ) → toy_valid i t sig ≡ true → Made 1 toy toy i t sig
toy_made i t v = record {
  fits = toy_fits i t sig v;
  some = lit< tt;
  holds = v;
  stays = λ s u g h. h;
  others = λ s n. refl;
  falls = lit≤ tt;
  by_one = lit≤ tt;
}

abbrev pub p : Setup
p = record { size = 2; signature = 1; digest = H }

-- a store with one slot replaced
abbrev pub same_slot : StoreSlot → StoreSlot → Bool
same_slot Value Value = true
same_slot Value Version = false
same_slot Version Value = false
same_slot Version Version = true

abbrev pub enter : StoreMeaning → StoreSlot → ℕ → List ℕ → StoreMeaning
enter m s i bs = record { slot = λ t j. cond (same_slot t s && eqb j i) bs (m.slot t j); left = m.left }

is_same : (s : StoreSlot) → same_slot s s ≡ true
is_same Value = refl
is_same Version = refl

same_is : (s t : StoreSlot) → same_slot s t ≡ true → s ≡ t
same_is Value Value e = refl
same_is Value Version e = absurd (both_ways false refl e)
same_is Version Value e = absurd (both_ways false refl e)
same_is Version Version e = refl

pub entered : (m : StoreMeaning) (s : StoreSlot) (i : ℕ) (bs : List ℕ) → Replaced m s i bs (enter m s i bs)
entered m s i bs = record {
  here = cond-true (same_slot s s && eqb i i) bs (m.slot s i) (Rattle.std.proofs.lemmas.Bool.and_from (same_slot s s) (eqb i i) (is_same s) (eq-eqb i i refl));
  others = λ t j n. go t j n (same_slot t s && eqb j i) refl;
  no_more = le_refl m.left;
  one_less = omega arith;
}
  where
    go : (t : StoreSlot) (j : ℕ) → (t ≡ s → j ≡ i → ⊥) → (b : Bool) → (same_slot t s && eqb j i) ≡ b → cond b bs (m.slot t j) ≡ m.slot t j
    go t j n true e = let both = and_parts (same_slot t s) (eqb j i) e in absurd (n (same_is t s both.0) (eqb-true j i both.1))
    go t j n false e = refl

-- bytes, by a test
abbrev pub all_bytes : List ℕ → Bool
all_bytes [] = true
all_bytes (b ∷ bs) = ltb b 256 && all_bytes bs

pub bytes_from : (bs : List ℕ) → all_bytes bs ≡ true → Bytes bs
bytes_from [] h k = lit< tt
bytes_from (b ∷ bs) h zero = ltb-true b 256 (and_parts (ltb b 256) (all_bytes bs) h).0
bytes_from (b ∷ bs) h (suc k) = bytes_from bs (and_parts (ltb b 256) (all_bytes bs) h).1 k

abbrev pub no_slots : StoreMeaning
no_slots = record { slot = λ s i. []; left = 4294967295 }

pub no_slots_sound : Sound no_slots
no_slots_sound = record { short = λ s i. lit≤ tt; bytes = λ s i k. lit< tt; few = lit≤ tt }

pub sound_enter : (m : StoreMeaning) (s : StoreSlot) (i : ℕ) (bs : List ℕ) → leb (length bs) 1024 ≡ true → all_bytes bs ≡ true → Sound m → Sound (enter m s i bs)
sound_enter m s i bs short bytes sound = record {
  short = λ t j. Rattle.std.proofs.lemmas.Bool.cond_both (same_slot t s && eqb j i) bs (m.slot t j) (λ (z : List ℕ). length z ≤ 1024) (λ e. leb-true (length bs) 1024 short) (λ e. sound.short t j);
  bytes = λ t j. Rattle.std.proofs.lemmas.Bool.cond_both (same_slot t s && eqb j i) bs (m.slot t j) Bytes (λ e. bytes_from bs bytes) (λ e. sound.bytes t j);
  few = sound.few;
}

-- the two sites, the host and the store
abbrev pub state : SiteState → SiteState → HostState → StoreMeaning → GroupState
state s1 s2 h m = record { scheme = toy; store = m; host = h; sites = λ j. cond (eqb j 1) s1 (cond (eqb j 2) s2 (new_site 2 j)) }

pub parts : (s1 s2 : SiteState) (h : HostState) (m : StoreMeaning) → Sound m → SoundParts p (state s1 s2 h m)
parts s1 s2 h m sound = record { fits = toy_fits; sound = sound }

pub only_1 : (s1 s1' s2 : SiteState) (h : HostState) (m : StoreMeaning) → OnlySite (state s1 s2 h m) (state s1' s2 h m) 1
only_1 s1 s1' s2 h m = record {
  store = refl;
  host = refl;
  others = λ j n. let e = ne_eqb j 1 n in cond-false (eqb j 1) s1' (cond (eqb j 2) s2 (new_site 2 j)) e ∙ sym (cond-false (eqb j 1) s1 (cond (eqb j 2) s2 (new_site 2 j)) e);
}

pub only_2 : (s1 s2 s2' : SiteState) (h : HostState) (m : StoreMeaning) → OnlySite (state s1 s2 h m) (state s1 s2' h m) 2
only_2 s1 s2 s2' h m = record {
  store = refl;
  host = refl;
  others = λ j n. let e = ne_eqb j 2 n in ap (λ (z : SiteState). cond (eqb j 1) s1 z) (cond-false (eqb j 2) s2' (new_site 2 j) e ∙ sym (cond-false (eqb j 2) s2 (new_site 2 j) e));
}

abbrev pub first : GroupState
first = state (new_site 2 1) (new_site 2 2) new_host no_slots

abbrev pub group : Group
group = record { setup = p; start = first }

pub started : Started group
started = record {
  set_up = record { size = (lit≤ tt, lit≤ tt); some = lit≤ tt; few = lit≤ tt; wide = wide };
  parts = parts (new_site 2 1) (new_site 2 2) new_host no_slots no_slots_sound;
  host = refl;
  sites = λ i. go i (cases_eq i 1) (cases_eq i 2);
}
  where
    go : (i : ℕ) → (i ≡ 1) ⊎ (i ≡ 1 → ⊥) → (i ≡ 2) ⊎ (i ≡ 2 → ⊥) → first.sites i ≡ new_site 2 i
    go i (inl e) d = subst (λ (z : ℕ). first.sites z ≡ new_site 2 z) (sym e) refl
    go i (inr n) (inl e) = subst (λ (z : ℕ). first.sites z ≡ new_site 2 z) (sym e) refl
    go i (inr n) (inr m) = cond-false (eqb i 1) (new_site 2 1) (cond (eqb i 2) (new_site 2 2) (new_site 2 i)) (ne_eqb i 1 n) ∙ cond-false (eqb i 2) (new_site 2 2) (new_site 2 i) (ne_eqb i 2 m)
