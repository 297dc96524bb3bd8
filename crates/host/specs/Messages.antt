-- What is known of a message that a host reads.
use Rattle.std.specs.Prelude.{◌≡◌, ℕ, List, length, Ok, Err, Result}
use Rattle.octets.specs.Field.{Field, read}
use Rattle.message.specs.declared.refusal.Refusal.{Refusal}
use Rattle.message.specs.declared.refusal.Refusal.TheVariants.{BadField}
use Rattle.message.specs.Commit.{Commitment}
use Rattle.message.specs.Submit.{Submission}
use Rattle.message.specs.Writes.{TooLong}
use Rattle.rules.specs.Group.{Member}

-- a commit of a site of the group, with a version and signatures of the group's form
pub record FormedCommit (n g : ℕ) (c : Commitment) : Type 0 where
  pub member : Member n c.site
  pub sized : length c.version ≡ n
  pub signed : length c.commit_signature ≡ g
  pub proved : length c.proof_signature ≡ g

-- a submit of a site of the group for a register of the group, with a value and signatures of the group's form
pub record FormedSubmit (n g : ℕ) (a : Submission) : Type 0 where
  pub member : Member n a.site
  pub register : Member n a.register
  pub short : TooLong a.value → ⊥
  pub signed : length a.submit_signature ≡ g
  pub data_signed : length a.data_signature ≡ g

-- the message that the bytes are, with such a form; or the offset of the first bad, incomplete or surplus field
abbrev pub ReadsFormed : {M A : Type 0} → Field A → (M → A) → (A → Type 0) → List ℕ → Result M Refusal → Type 0
ReadsFormed f of Formed bs (Ok m) = (read f bs ≡ Ok (of m)) × Formed (of m)
ReadsFormed f of Formed bs (Err e) = (offset : ℕ) × (read f bs ≡ Err offset) × (e ≡ BadField offset)
