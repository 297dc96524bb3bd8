use Rattle.site.proofs.Ranges.{left_known}
use Rattle.site.proofs.state.Site.left.Goals as goal

pub unwrap-requires : goal.unwrap-requires
unwrap-requires g c = left_known (g.S.Scheme.means c.args.scheme.now) c.args.self.now _ c.left.ensures.lefts
