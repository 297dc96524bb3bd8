use Rattle.site.proofs.Linking.{linked_none}
use Rattle.site.proofs.running.link.Goals as goal

pub returns-in-None : goal.returns-in-None
returns-in-None c = linked_none _ c.args.room.now c.args.site c.in-None.is c.told-room
