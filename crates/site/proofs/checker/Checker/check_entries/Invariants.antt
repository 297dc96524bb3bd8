use Rattle.std.proofs.Common.{◌≡◌, map, length, drop}
use Rattle.message.specs.Reply.{listed, all_listed}
use Rattle.version.specs.Version.{slots}
use Rattle.site.specs.Checking.{answered, size_of}
use Rattle.site.specs.Running.{running, committed}
use Rattle.site.proofs.Entering.{Left}
use Rattle.site.proofs.checker.Checker.check_entries.Given as goal

abbrev pub invariant-loop-entry : goal.invariant-loop-entry
invariant-loop-entry g l = record {
  sizes : length (slots l.running.version) ≡ size_of l.reply;
  left :
      Left g.D.Digest.means (g.S.Scheme.means l.self.scheme.now) l.self.number (answered g.S.Scheme.G l.reply) (committed l.reply)
      (all_listed l.reply.entries) (running l.running) (map listed (drop l.entry-index l.entry-items));
}
