use Rattle.std.proofs.lemmas.List.{append-nil}
use Rattle.message.specs.Commit.{committed}
use Rattle.message.proofs.Laws.{commit_law}
use Rattle.message.proofs.Writing.{writes}
use Rattle.message.proofs.commit.Commit.write.Goals as goal

pub returns : goal.returns
returns c n g =
    let m = committed c.args.self.now in
    writes m _ _ c.args.out.now _ _ (commit_law n g) (λ z. z) (rw (append-nil m.proof_signature, c.version_part-version.ensures, c.commit_start-head.ensures)) c.fill.ensures
