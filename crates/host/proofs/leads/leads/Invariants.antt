use Rattle.std.proofs.Common.{◌≡◌, ℕ, ◌+◌}
use Rattle.version.specs.Version.{slots}
use Rattle.host.proofs.Leading.{Told}
use Rattle.host.proofs.leads.leads.Given as goal

-- the sites before this one have been looked at
abbrev pub invariant-loop-site : goal.invariant-loop-site
invariant-loop-site l = (k : ℕ) × (l.site ≡ k + 1) × Told (slots l.version) (slots l.other) k l.above
