use Rattle.std.proofs.Common.{map, vec_items, refl, ◌∙◌}
use Rattle.site.specs.State.{state}
use Rattle.register.proofs.Sites.{all_new}
use Rattle.register.proofs.starting.make.Goals as goal

pub returns-in-Ok-all_sites : goal.returns-in-Ok-all_sites
returns-in-Ok-all_sites g c =
    let host = c.in-Ok.ensures in
    let sites = c.in-Ok-all_sites.ensures in (
      record {
        set_up = record { size = host.0; some = g.met.S.Scheme.low; few = g.met.S.Scheme.high; wide = g.met.D.Digest.len };
        parts = record { fits = g.met.S.Scheme.fits c.args.scheme; sound = g.met.T.Store.sound c.in-Ok.host.store };
        host = host.5;
        sites = all_new c.args.size (map state (vec_items c.in-Ok-all_sites.sites)) sites;
      },
      refl,
      refl,
      host.4,
      sites,
      host.2,
      host.3 ∙ c.G.ensures,
    )
