use Rattle.std.proofs.Common.{[], rules}
use Rattle.message.specs.declared.code.Code.TheVariants.{Read}
use Rattle.message.specs.declared.reply_parts.ListEntry.{ListEntry}
use Rattle.host.proofs.Listing.{last_through}
use Rattle.host.proofs.list.through_last.Goals as goal

none : ListEntry
none = record { site = 0; code = Read; register = 0; signature = [] }

pub returns-clause-rest : goal.returns-clause-rest
returns-clause-rest c g =
    last_through g c.args.site none c.args.list.now c.rposition.result c.map_or.result (search rules) (search rules) (search rules) (search rules) (search rules) (search rules)
