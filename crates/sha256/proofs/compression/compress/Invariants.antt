use Rattle.std.proofs.Common.{◌≡◌, ◌*◌, ◌<◌}
use Rattle.sha256.specs.Compression.{rounds, schedule, words}
use Rattle.sha256.specs.Window.{Shows}
use Rattle.sha256.proofs.compression.compress.Given as goal

abbrev pub invariant-loop-j : goal.invariant-loop-j
invariant-loop-j l =
    (l.j < 4 → Shows (schedule (words l.block 16) 48) (16 * l.j) l.w)
    × (l.r ≡ rounds (schedule (words l.block 16) 48) l.s (16 * l.j))
