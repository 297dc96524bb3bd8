use Rattle.std.proofs.Common.{◌≡◌, ◌+◌, ◌≤◌, map, vec_items, vec_len, vec_capacity}
use Rattle.register.specs.Start.{new_sites}
use Rattle.site.specs.State.{state}
use Rattle.register.proofs.starting.all_sites.Given as goal

-- the sites before this one stand there
abbrev pub invariant-loop-number : goal.invariant-loop-number
invariant-loop-number l = record {
  next : l.number ≡ vec_len l.sites + 1;
  room : l.size ≤ vec_capacity l.sites;
  made : map state (vec_items l.sites) ≡ new_sites l.size (vec_len l.sites);
}
