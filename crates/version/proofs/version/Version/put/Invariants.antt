use Rattle.std.proofs.Common.{◌≡◌, ◌+◌, ◌*◌, take, map}
use Rattle.octets.specs.Field.{put_all}
use Rattle.octets.specs.Puts.{Puts}
use Rattle.version.specs.Layout.{slot_field}
use Rattle.version.specs.Version.{slot_from}
use Rattle.version.proofs.version.Version.put.Given as goal

abbrev pub invariant-loop-slot : goal.invariant-loop-slot
invariant-loop-slot l = record {
  place : l.at ≡ l.start + 36 * l.slot-index;
  written : Puts (put_all slot_field (map slot_from (take l.slot-index l.self.seen))) l.start l.initial.out l.out l.at;
}
