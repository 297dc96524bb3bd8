-- Worked examples, proved together.
use Rattle.std.specs.Prelude.{◌≡◌, ℕ, ◌<◌, ◌≤◌, List, ◌∷◌, ◌++◌, length, replicate, Ok, Err, Result}
use Rattle.message.specs.declared.code.Code.{Code}
use Rattle.message.specs.declared.refusal.Refusal.TheVariants.{BadField}
use Rattle.message.specs.Commit.{Commitment}
use Rattle.message.specs.Reply.{Response}
use Rattle.message.specs.Submit.{Submission}
use Rattle.signature.specs.Meaning.{SchemeMeaning}
use Rattle.store.specs.Meaning.{StoreMeaning}
use Rattle.version.specs.Examples.{Examples}
use Rattle.version.specs.Shape.{Size}
use Rattle.rules.specs.declared.fault.Fault.{Fault}
use Rattle.rules.specs.declared.fault.Fault.TheVariants.{Message}
use Rattle.rules.specs.declared.phase.Phase.TheVariants.{Idle}
use Rattle.rules.specs.declared.refusal.Refusal.{Refusal}
use Rattle.rules.specs.declared.refusal.Refusal.TheVariants.{ValueTooLong, BufferTooShort}
use Rattle.rules.specs.Begin.{write_of, Begins}
use Rattle.rules.specs.Examples.{Overtaken}
use Rattle.rules.specs.Finish.{Operation, Awaits, read_reply, Outcome, refused, Finishes}
use Rattle.rules.specs.Group.{Setup, SiteState, HostState, own, max_timestamp}
use Rattle.rules.specs.Taking.{TakesCommit}

-- two sites, and signatures of 32 bytes
abbrev pub pair_of : (List ℕ → List ℕ) → Setup
pair_of H = record { size = 2; signature = 32; digest = H }

-- a site that can begin an operation whose submit fits a buffer of so many bytes
pub record Ready (m : SchemeMeaning) (s : SiteState) : Type 0 where
  pub idle : s.phase ≡ Idle
  pub below : own s < max_timestamp
  pub four : 4 ≤ m.left s.number

-- A commit of site 1 with timestamps (1,0) and a byte that is not zero in the second digest.
abbrev pub bad_commit : List ℕ
bad_commit = (3 ∷ 1 ∷ 0 ∷ 0 ∷ 0 ∷ 1 ∷ replicate 32 5) ++ ((0 ∷ 0 ∷ 0 ∷ 0 ∷ replicate 31 0) ++ (9 ∷ replicate 64 7))

pub record Worked : Type 0 where
  -- (1,0) is below (1,1) with equal first digests and apart with unequal ones; (2,0) and (1,1) are apart; zero is equal to itself and below (1,0)
  pub orders : Examples
  -- a group of 8 can be started, and one of 9 cannot
  pub eight : Size 8
  pub nine : Size 9 → ⊥
  -- a value of 512 bytes begins, and one of 513 is refused by 4
  pub longest :
      (H : List ℕ → List ℕ) (m m' : SchemeMeaning) (s s' : SiteState) (v was is : List ℕ) (answer : Result Submission Refusal) → length v ≡ 512 → Ready m s
      → length was ≡ 586 → Begins (pair_of H) m m' s s' (write_of v) was is answer → (a : Submission) × (answer ≡ Ok a)
  pub longer :
      (H : List ℕ → List ℕ) (m m' : SchemeMeaning) (s s' : SiteState) (v was is : List ℕ) (answer : Result Submission Refusal) → length v ≡ 513 → Ready m s
      → Begins (pair_of H) m m' s s' (write_of v) was is answer → answer ≡ Err ValueTooLong
  -- at two sites and signatures of 32 bytes a buffer of 138 bytes serves for a commit, and one of 137 is refused by 11
  pub serves :
      (H : List ℕ → List ℕ) (m m' : SchemeMeaning) (s s' : SiteState) (t : Operation) (bs was is : List ℕ) → length was ≡ 138
      → Finishes (pair_of H) m m' s s' t bs was is (refused BufferTooShort) → ⊥
  pub too_short :
      (H : List ℕ → List ℕ) (m m' : SchemeMeaning) (s s' : SiteState) (t : Operation) (c : Code) (r : ℕ) (a : Response) (bs was is : List ℕ) (answer : Outcome)
      → Awaits s t c r → 2 ≤ m.left s.number → read_reply (pair_of H) c bs ≡ Ok a → length was ≡ 137
      → Finishes (pair_of H) m m' s s' t bs was is answer → answer ≡ refused BufferTooShort
  -- the commit is refused by 7 at offset 42
  pub refused_at_42 :
      (H : List ℕ → List ℕ) (h h' : HostState) (m m' : StoreMeaning) (answer : Result Commitment Fault) → TakesCommit (pair_of H) h h' m m' bad_commit answer
      → answer ≡ Err (Message (BadField 42))
  -- site 1 submits a write and site 2 a read of register 1, and the read finishes first: (1,1),(2,1) for the read, (1,1) for the write
  pub histories : Overtaken
