-- What a version says of a site, also of one that its group does not have.
use Rattle.std.proofs.Common.{◌≡◌, ℕ, List, None, Ok, Err, Option, Result, sym, ap, ◌∙◌}
use Rattle.std.specs.Result.{result_unwrap_or}
use Rattle.rules.specs.Group.{slot}
use Rattle.rules.proofs.Slots.{slot_place, slot_outside}
use Rattle.version.specs.declared.refusal.Refusal.{Refusal}
use Rattle.version.specs.declared.version.Version.{Version}
use Rattle.version.specs.Calls.{Timestamp, Digest}
use Rattle.version.specs.Order.{Slot}
use Rattle.version.specs.Version.{slots}

pub stamp_or : (v : Version) (i : ℕ) (r : Result ℕ Refusal) → Timestamp v i r → result_unwrap_or r 0 ≡ (slot (slots v) i).timestamp
stamp_or v i (Ok t) h = h.1 ∙ ap (λ (s : Slot). s.timestamp) (sym (slot_place (slots v) i h.0.0))
stamp_or v i (Err e) h = ap (λ (s : Slot). s.timestamp) (sym (slot_outside (slots v) i h.0))

pub digest_or : (v : Version) (i : ℕ) (r : Result (Option (List ℕ)) Refusal) → Digest v i r → result_unwrap_or r None ≡ (slot (slots v) i).digest
digest_or v i (Ok d) h = h.1 ∙ ap (λ (s : Slot). s.digest) (sym (slot_place (slots v) i h.0.0))
digest_or v i (Err e) h = ap (λ (s : Slot). s.digest) (sym (slot_outside (slots v) i h.0))
