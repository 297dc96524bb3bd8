-- A commit: kind 3, site, version, commit signature, proof signature.
use Rattle.std.specs.Prelude.{ℕ, List}
use Rattle.octets.specs.Field.{Field, span, ◌then◌, shaped}
use Rattle.version.specs.Layout.{version_field}
use Rattle.version.specs.Order.{Slot}
use Rattle.version.specs.Version.{slots}
use Rattle.message.specs.declared.commit.Commit.{Commit}
use Rattle.message.specs.Heads.{commit_head}

pub record Commitment : Type 0 where
  pub site : ℕ
  pub version : List Slot
  pub commit_signature : List ℕ
  pub proof_signature : List ℕ

-- in a group of n sites, with signatures of g bytes
abbrev pub commit : ℕ → ℕ → Field Commitment
commit n g =
    shaped
    (λ p. record { site = p.0.1; version = p.1.0; commit_signature = p.1.1.0; proof_signature = p.1.1.1 })
    (λ m. ((tt, m.site), (m.version, (m.commit_signature, m.proof_signature))))
    (commit_head n then λ _. version_field n then λ _. span g then λ _. span g)

-- what a commit of the code stands for
abbrev pub committed : Commit → Commitment
committed m =
    record {
      site = m.site;
      version = slots m.version;
      commit_signature = m.commit_signature.now;
      proof_signature = m.proof_signature.now;
    }
