use Rattle.std.proofs.Common.{ℕ, List, ◌++◌, sym, ap, ◌∙◌, lit<}
use Rattle.digest.specs.Blocks.{left, whole}
use Rattle.digest.proofs.Blocks.{whole_join}
use Rattle.sha256.specs.Compression.{compressed}
use Rattle.sha256.specs.Sha256.{output, padding}
use Rattle.sha256.proofs.message.conclude.Goals as goal

pub returns : goal.returns
returns c =
    let pad : List ℕ = padding c.args.n in
    c.output_bytes.ensures
    ∙ ap output
    (c.finish.ensures
    ∙ ap (λ z. whole compressed 64 c.absorb-rest.new.state (z ++ pad)) c.absorb-rest.ensures.rest
    ∙ ap (λ z. whole compressed 64 z (left 64 c.args.bytes.now ++ pad)) c.absorb-rest.ensures.state
    ∙ sym (whole_join compressed 64 (lit< tt) c.args.s c.args.bytes.now pad))
