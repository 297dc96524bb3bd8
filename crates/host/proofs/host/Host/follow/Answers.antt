use Rattle.std.proofs.Common.{◌∙◌}
use Rattle.host.proofs.Listing.{drained}
use Rattle.host.proofs.host.Host.follow.Goals as goal

pub returns-then-leading-clause-state : goal.returns-then-leading-clause-state
returns-then-leading-clause-state t c =
    let h = c.args.self.now in
    let left = c.drop-drain.ensures c.drain.ensures.ready.2 ∙ c.drain.ensures.kept in
    rw c.if-leading.true (drained h.signature c.args.site c.through_last-end.result h.list.items _ left (rw c.as_slice.ensures.value at (c.through_last-end.ensures.rest h.signature)))
