use Rattle.std.proofs.Common.{ap}
use Rattle.std.proofs.lemmas.Result.{err_from_is_err_and}
use Rattle.message.specs.Commit.{committed}
use Rattle.host.specs.State.{host_state, host_setup}
use Rattle.host.proofs.Committing.{taken, refused}
use Rattle.host.proofs.host.Host.take_commit.Goals as goal

pub returns-in_err-keep_commit-clause-taken : goal.returns-in_err-keep_commit-clause-taken
returns-in_err-keep_commit-clause-taken t c H =
    let h = c.args.self.now in
    let p = err_from_is_err_and c.from_residual-in_err-keep_commit.result c.from_residual-in_err-keep_commit.ensures.1 in
    rw (p.1, p.2)
    (refused (host_setup H h) (host_state h) (t.T.Store.means h.store) c.args.bytes.now (committed c.in_ok-commit.commit) c.in_ok-commit.ensures.0
    (c.next_commit.ensures.0 c.if-not-next_commit.false) (t.T.Store.means c.keep_commit.new.store) _ (c.in_err-keep_commit.ensures h.size h.signature))

pub returns-clause-taken : goal.returns-clause-taken
returns-clause-taken t c H =
    let h = c.args.self.now in
    taken (host_setup H h) (host_state h) (t.T.Store.means h.store) c.args.bytes.now (committed c.in_ok-commit.commit) c.in_ok-commit.ensures.0
    (c.next_commit.ensures.0 c.if-not-next_commit.false) (host_state c.follow.new.self) (t.T.Store.means c.keep_commit.new.store) (t.T.Store.means c.follow.new.self.store)
    c.leading-leading.result (c.in_ok-keep_commit.ensures h.size h.signature) (ap t.T.Store.means c.follow.ensures.store) c.leading-leading.ensures c.follow.ensures.state
