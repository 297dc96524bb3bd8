use Rattle.std.proofs.Common.{ℕ, List, [], ◌∷◌, get_or, ap, ◌∙◌}
use Rattle.std.specs.List.{flat_map}
use Rattle.digest.proofs.Tables.{mapped}
use Rattle.sha3.specs.Sha3.{bytes_of, squeezed}
use Rattle.sha3.proofs.sponge.squeeze.Goals as goal

pub returns : goal.returns
unfolding squeezed
returns c =
    let a = c.args.a in
    let lanes : List ℕ = get_or a 0 0 ∷ get_or a 1 0 ∷ get_or a 2 0 ∷ get_or a 3 0 ∷ [] in
    let items = c.map-lanes.ensures.items in
    c.copy_from_slice.ensures.after ∙ c.as_flattened.ensures.value
    ∙ ap (flat_map (λ x. x)) (mapped bytes_of 0 lanes c.map-lanes.result items.long (λ k e h. (items.at k 0 e h).2.met))
