use Rattle.std.proofs.Common.{◌≡◌, ◌*◌, length, sym, ap, ◌∙◌}
use Rattle.version.specs.Calls.{bytes_of}
use Rattle.version.proofs.LayoutLaws.{version-length}
use Rattle.message.proofs.Placed.{passed}
use Rattle.message.proofs.places.version_end.Goals as goal

pub returns : goal.returns
returns c bs rest l h =
    let v = c.args.version.now in
    let size : length (bytes_of v) ≡ 36 * c.size.result = version-length v ∙ ap (λ n. 36 * n) (sym c.size.ensures.value) in
    (tt, passed bs (bytes_of v) rest c.args.offset h _ l (rw size c.saturating_add.ensures))
