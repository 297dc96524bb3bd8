use Rattle.std.proofs.Common.{[], length, Some, None, rules, refl, ap, ◌∙◌}
use Rattle.version.specs.Version.{slots}
use Rattle.message.specs.Replied.{responded, proofs_put, FoundTooLong}
use Rattle.message.proofs.Laws.{reply_law}
use Rattle.message.proofs.Writing.{writes}
use Rattle.message.proofs.Replying.{found_put, reply_put}
use Rattle.message.proofs.reply_parts.ReplyParts.write.Goals as goal

pub returns-in-None : goal.returns-in-None
returns-in-None c =
    let m = c.args.self.now in
    let g = c.args.g in
    let n = length (slots m.version.now) in
    let proofs = c.proofs_part-proofs.ensures ∙ ap (proofs_put g m.proofs.now) c.size.ensures.value in
    let e = reply_put g m None c.in-None.is c.reply_start-head.result _ _ _ [] c.reply_start-head.ensures c.version_part-version.ensures c.entries_part-entries.ensures proofs refl in
    let long : FoundTooLong m.found → ⊥ = rw c.in-None.is (λ z. z) in
    writes (responded g m) _ _ c.args.out.now _ _ (reply_law n g) long e c.fill.ensures

pub returns-in_ok-size-in-Some : goal.returns-in_ok-size-in-Some
returns-in_ok-size-in-Some c =
    let m = c.args.self.now in
    let g = c.args.g in
    let n = length (slots m.version.now) in
    let f = c.in-Some.found in
    let v = c.in_ok-size-in-Some.ensures in
    let proofs = c.proofs_part-proofs.ensures ∙ ap (proofs_put g m.proofs.now) c.size.ensures.value in
    let back = found_put n g f _ _ c.in_ok-size-in-Some.size c.in_ok-size-in-Some.value.now c.version_part-owner.ensures (search rules) v.1 in
    let e = reply_put g m (Some f) c.in-Some.is c.reply_start-head-in-Some.result _ _ _ _ c.reply_start-head-in-Some.ensures c.version_part-version.ensures c.entries_part-entries.ensures proofs back in
    let long : FoundTooLong m.found → ⊥ = rw c.in-Some.is v.0 in
    writes (responded g m) _ _ c.args.out.now _ _ (reply_law n g) long e c.fill-in-Some.ensures
