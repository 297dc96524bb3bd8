use Rattle.std.proofs.Common.{length, refl, ap, ◌∙◌, arith}
use Rattle.std.proofs.lemmas.List.{length-replicate}
use Rattle.version.specs.Order.{unseen}
use Rattle.site.proofs.state.Site.new.Goals as goal

pub invariant_of-result : goal.invariant_of-result
invariant_of-result c =
    let z = c.in-Ok.ensures in
    let n = ap length z.1 ∙ length-replicate c.args.size unseen in
    record { low = omega arith; high = omega arith; wide = refl }
