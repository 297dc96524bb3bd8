use Rattle.message.specs.Commit.{commit, committed}
use Rattle.host.specs.Messages.{FormedCommit}
use Rattle.host.proofs.Reading.{commit_formed, of_any_size, reads_formed}
use Rattle.host.proofs.host.Host.read_commit.Goals as goal

pub returns : goal.returns
returns t c =
    let h = c.args.self.now in
    let f = commit h.size h.signature in
    let bs = c.args.bytes.now in
    reads_formed f committed bs (FormedCommit h.size h.signature) c.read.result (λ k. (c.type_inv.bytes k).fits) c.read.ensures.undoes (commit_formed h.size h.signature)
    (of_any_size f committed bs h.size c.read.result h.sized c.read.ensures.reads)
