use Rattle.std.proofs.Common.{ℕ, List, [], ◌∷◌, ap, ◌∙◌}
use Rattle.std.specs.List.{flat_map}
use Rattle.digest.proofs.Tables.{mapped}
use Rattle.sha256.specs.Sha256.{bytes32, output}
use Rattle.sha256.proofs.message.output_bytes.Goals as goal

pub returns : goal.returns
unfolding output
returns c =
    let s = c.args.s in
    let words : List ℕ = s.a ∷ s.b ∷ s.c ∷ s.d ∷ s.e ∷ s.f ∷ s.g ∷ s.h ∷ [] in
    let items = c.map-words.ensures.items in
    c.copy_from_slice.ensures.after ∙ c.as_flattened.ensures.value
    ∙ ap (flat_map (λ x. x)) (mapped bytes32 0 words c.map-words.result items.long (λ k e h. (items.at k 0 e h).2.met))
