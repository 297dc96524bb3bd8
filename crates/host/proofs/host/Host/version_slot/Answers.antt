use Rattle.std.proofs.Common.{◌≡◌, rules}
use Rattle.message.specs.Slots.{version_stored}
use Rattle.store.specs.declared.slot.Slot.TheVariants.{Version}
use Rattle.host.specs.State.{version_said}
use Rattle.host.proofs.Saying.{version_formed}
use Rattle.host.proofs.host.Host.version_slot.Goals as goal

pub returns-clause-formed : goal.returns-clause-formed
returns-clause-formed t c =
    let h = c.args.self.now in
    let says : version_stored c.unwrap_or.result ≡ version_said t.T.Store.means h c.args.site = search rules in
    rw says (version_formed h.size h.signature _ ((t.met.T.Store.sound h.store).bytes Version c.args.site) c.read.ensures.undoes)
