-- What each call of a store answers and changes.
use Rattle.std.specs.Prelude.{◌≡◌, ℕ, ◌+◌, ◌<◌, ◌≤◌, List, ◌++◌, length, drop, Ok, Err, Result, ◌≢◌}
use Rattle.store.specs.declared.fault.Fault.{Fault}
use Rattle.store.specs.declared.fault.Fault.TheVariants.{OutOfRange, TooLong, NoRewriteLeft, BufferTooShort}
use Rattle.store.specs.declared.slot.Slot.{Slot}
use Rattle.store.specs.Limits.{max_sites, max_slot}
use Rattle.store.specs.Meaning.{StoreMeaning}

-- i is the number of a site
abbrev pub Site : ℕ → Type 0
Site i = (1 ≤ i) × (i ≤ max_sites)

-- the slot s of the site i is read into a buffer: it stands in front and the old bytes behind it, or all is as it was
abbrev pub Reads : StoreMeaning → Slot → ℕ → List ℕ → List ℕ → Result ℕ Fault → Type 0
Reads m s i was is (Ok end) = Site i × (end ≡ length (m.slot s i)) × (end ≤ length was) × (is ≡ m.slot s i ++ drop end was)
Reads m s i was is (Err OutOfRange) = (Site i → ⊥) × (is ≡ was)
Reads m s i was is (Err TooLong) = ⊥
Reads m s i was is (Err NoRewriteLeft) = ⊥
Reads m s i was is (Err BufferTooShort) = Site i × (length was < length (m.slot s i)) × (is ≡ was)

-- m becomes m': the slot s of the site i holds bs, every other slot is as it was, and at most one rewrite is gone
pub record Replaced (m : StoreMeaning) (s : Slot) (i : ℕ) (bs : List ℕ) (m' : StoreMeaning) : Type 0 where
  pub here : m'.slot s i ≡ bs
  pub others : (t : Slot) (j : ℕ) → (t ≡ s → j ≢ i) → m'.slot t j ≡ m.slot t j
  pub no_more : m'.left ≤ m.left
  pub one_less : m.left ≤ m'.left + 1

-- bs is written to the slot s of the site i: each refusal by the first check that fails, and a refusal changes nothing
abbrev pub Writes : StoreMeaning → Slot → ℕ → List ℕ → StoreMeaning → Result (Unit {0}) Fault → Type 0
Writes m s i bs m' (Ok _) = Site i × (length bs ≤ max_slot) × (0 < m.left) × Replaced m s i bs m'
Writes m s i bs m' (Err OutOfRange) = (Site i → ⊥) × (m' ≡ m)
Writes m s i bs m' (Err TooLong) = Site i × (max_slot < length bs) × (m' ≡ m)
Writes m s i bs m' (Err NoRewriteLeft) = Site i × (length bs ≤ max_slot) × (m.left ≡ 0) × (m' ≡ m)
Writes m s i bs m' (Err BufferTooShort) = ⊥
