use Rattle.std.proofs.Common.{[], ◌++◌, rules, arith}
use Rattle.std.proofs.lemmas.List.{append-nil}
use Rattle.message.specs.Commit.{commit, committed}
use Rattle.message.proofs.commit.Commit.places.Goals as goal

pub returns : goal.returns
returns c n g l =
    let m = committed c.args.self.now in
    let bs = (commit n g).put m in
    let v = c.version_end-end.ensures bs (m.commit_signature ++ m.proof_signature) l (record { within = omega arith; there = search rules }) in
    let a = c.place-end.ensures bs _ l v.1 in
    let b = c.place.ensures bs [] l (rw (append-nil m.proof_signature) a.1) in
    record { commit_signature = a.0.0; proof_signature = b.0.0 }
