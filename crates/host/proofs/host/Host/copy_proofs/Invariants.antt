use Rattle.std.proofs.Common.{◌≡◌, ℕ, ◌+◌, ◌*◌, ◌<◌, length}
use Rattle.message.specs.Places.{bytes_at}
use Rattle.host.specs.Says.{version_of}
use Rattle.host.proofs.host.Host.copy_proofs.Given as goal

-- the proof signatures of the sites so far stand in their places
abbrev pub invariant-loop-place : goal.invariant-loop-place
invariant-loop-place t l =
    (length l.out ≡ 512)
    × ((k : ℕ) → k < l.place
    → bytes_at l.out (0 + l.self.signature * k) l.self.signature ≡ (version_of l.self.size l.self.signature (t.T.Store.means l.self.store) (k + 1)).proof_signature)
