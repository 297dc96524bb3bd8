-- The running version that a value of the code stands for.
use Rattle.message.specs.declared.reply.Reply.{Reply}
use Rattle.rules.specs.Group.{slot}
use Rattle.rules.specs.Running.{Running as Walk}
use Rattle.version.specs.Version.{slots}
use Rattle.site.specs.declared.running.Running.{Running}

abbrev pub running : Running → Walk
running w = record { version = slots w.version; digest = w.digest }

-- a reply's committed version, with the committer's digest in it
abbrev pub committed : Reply → Walk
committed m = record { version = slots m.version; digest = (slot (slots m.version) m.committer).digest }
