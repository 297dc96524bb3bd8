use Rattle.std.proofs.Common.{◌≡◌, ℕ, List, ◌++◌, sym, ap, ◌∙◌, rules, append_assoc}
use Rattle.std.proofs.Output.{has_written_append}
use Rattle.std.proofs.lemmas.Str.{IsUtf8-from_ascii}
use Rattle.std.specs.Slice.Iter.{chunks_rest}
use Rattle.hex_text.specs.Hex.{digits}
use Rattle.hex_text.proofs.Digits.{digits_append}
use Rattle.hex_text.proofs.TextDisplay.fmt.Goals as goal

pub unreachable-requires : goal.unreachable-requires
unreachable-requires g c = c.in_default.ensures.cases.0 (rw c.put_digits.ensures.written (IsUtf8-from_ascii (digits c.in-Some.piece.now) c.put_digits.ensures.ascii))

pub loop-piece-preserved : goal.loop-piece-preserved
loop-piece-preserved g c =
    let piece = c.in-Some.piece.now in
    let rest = chunks_rest c.next.new.self in
    let steps = c.in-Some.ensures.steps in
    let shown : c.in-Ok.text.now ≡ digits piece = c.in-Ok.ensures.cases.0 ∙ c.put_digits.ensures.written in (
      search rules,
      tt,
      steps.0 ∙ c.loop-piece.invariant.2,
      λ plain.
          let so_far = c.loop-piece.invariant.3 plain in (
            so_far.0 ++ c.in-Ok.text.now,
            has_written_append _ _ _ _ _ _ so_far.1 (search rules),
            append_assoc so_far.0 _ _ ∙ ap (λ (t : List ℕ). so_far.0 ++ t) (rw shown (sym (digits_append piece rest) ∙ ap digits (sym steps.1.0))) ∙ so_far.2,
          ),
    )
