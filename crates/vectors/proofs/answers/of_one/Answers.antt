use Rattle.std.proofs.Common.{ℕ, List, Some, inr, lit<}
use Rattle.std.proofs.lemmas.Str.Pattern.{split_parts}
use Rattle.vectors.specs.Questions.{OfOne, OfRepeated}
use Rattle.vectors.proofs.Found.{found_so}
use Rattle.vectors.proofs.answers.of_one.Goals as goal

pub returns-in-Some : goal.returns-in-Some
returns-in-Some g c =
    let count : List ℕ = c.in-Some.count.now in
    let text : List ℕ = c.in-Some.text.now in
    let cut = split_parts 42 c.args.word.now (Some (c.in-Some.count, c.in-Some.text)) c.in-Some.ensures.cases (lit< tt) in
    found_so (OfRepeated g.H.Of.Digest.means count text) (OfOne g.H.Of.Digest.means c.args.word.now) (λ d p. inr (count, text, cut.0, p)) c.of_repeated.result c.of_repeated.ensures
