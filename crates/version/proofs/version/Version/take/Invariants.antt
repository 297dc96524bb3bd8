use Rattle.std.proofs.Common.{map, take}
use Rattle.octets.proofs.Loops.{Left}
use Rattle.version.specs.Layout.{slot_field}
use Rattle.version.specs.Version.{slot_from}
use Rattle.version.proofs.version.Version.take.Given as goal

abbrev pub invariant-loop-slot : goal.invariant-loop-slot
invariant-loop-slot l = Left slot_field l.self.size l.bytes l.slot-index (map slot_from (take l.slot-index l.slot-items)) l.rest
