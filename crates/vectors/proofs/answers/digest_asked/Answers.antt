use Rattle.std.proofs.Common.{Some, inl, inr, lit<}
use Rattle.std.proofs.lemmas.Str.Pattern.{split_parts}
use Rattle.sha256.specs.Sha256.{sha256}
use Rattle.sha3.specs.Sha3.{sha3_256}
use Rattle.vectors.specs.Questions.{OfHmac, OfMidstate, OfOne, OfPair}
use Rattle.vectors.proofs.Found.{asked}
use Rattle.vectors.proofs.answers.digest_asked.Goals as goal

pub returns-in-sha256 : goal.returns-in-sha256
returns-in-sha256 c =
    let cut = split_parts 32 c.args.line.now (Some (c.in-Some.name, c.in-Some.words)) c.in-Some.ensures.cases (lit< tt) in
    asked c.args.line.now c.in-Some.name.now c.in-Some.words.now cut.0 (OfOne sha256 c.in-Some.words.now)
    (λ d p. inl (c.in-sha256.is, p)) c.of_one.result c.of_one.ensures

pub returns-in-text : goal.returns-in-text
returns-in-text c =
    let cut = split_parts 32 c.args.line.now (Some (c.in-Some.name, c.in-Some.words)) c.in-Some.ensures.cases (lit< tt) in
    asked c.args.line.now c.in-Some.name.now c.in-Some.words.now cut.0 (OfOne sha3_256 c.in-Some.words.now)
    (λ d p. inr (inl (c.in-text.is, p))) c.of_one-in-text.result c.of_one-in-text.ensures

pub returns-in-text-2 : goal.returns-in-text-2
returns-in-text-2 c =
    let cut = split_parts 32 c.args.line.now (Some (c.in-Some.name, c.in-Some.words)) c.in-Some.ensures.cases (lit< tt) in
    asked c.args.line.now c.in-Some.name.now c.in-Some.words.now cut.0 (OfPair sha256 c.in-Some.words.now)
    (λ d p. inr (inr (inl (c.in-text-2.is, p)))) c.of_two.result c.of_two.ensures

pub returns-in-text-3 : goal.returns-in-text-3
returns-in-text-3 c =
    let cut = split_parts 32 c.args.line.now (Some (c.in-Some.name, c.in-Some.words)) c.in-Some.ensures.cases (lit< tt) in
    asked c.args.line.now c.in-Some.name.now c.in-Some.words.now cut.0 (OfPair sha3_256 c.in-Some.words.now)
    (λ d p. inr (inr (inr (inl (c.in-text-3.is, p))))) c.of_two-in-text-3.result c.of_two-in-text-3.ensures

pub returns-in-text-4 : goal.returns-in-text-4
returns-in-text-4 c =
    let cut = split_parts 32 c.args.line.now (Some (c.in-Some.name, c.in-Some.words)) c.in-Some.ensures.cases (lit< tt) in
    asked c.args.line.now c.in-Some.name.now c.in-Some.words.now cut.0 (OfMidstate c.in-Some.words.now)
    (λ d p. inr (inr (inr (inr (inl (c.in-text-4.is, p)))))) c.of_midstate.result c.of_midstate.ensures

pub returns-in-text-5 : goal.returns-in-text-5
returns-in-text-5 c =
    let cut = split_parts 32 c.args.line.now (Some (c.in-Some.name, c.in-Some.words)) c.in-Some.ensures.cases (lit< tt) in
    asked c.args.line.now c.in-Some.name.now c.in-Some.words.now cut.0 (OfHmac c.in-Some.words.now)
    (λ d p. inr (inr (inr (inr (inr (c.in-text-5.is, p)))))) c.of_hmac.result c.of_hmac.ensures
