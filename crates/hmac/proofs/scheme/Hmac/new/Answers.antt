use Rattle.std.proofs.Common.{◌≡◌, [], length, ap, ◌∙◌, arith, rules, tests}
use Rattle.std.proofs.lemmas.List.{length-map}
use Rattle.hmac.specs.Calls.{key_of}
use Rattle.hmac.proofs.Mapped.{mapped}
use Rattle.hmac.proofs.scheme.Hmac.new.Goals as goal

pub returns : goal.returns
returns c =
    let lent = c.each_ref.ensures.items in
    let n = ap length lent in
    let m = length-map c.each_ref.result (λ k. k.now) in
    let long : length c.each_ref.result ≡ 8 = omega (arith, c.told-keys) in
    mapped _ key_of (λ k. k.now) _ (λ x y q e. search (rules, tests)) 8 c.each_ref.result c.map.result [] long c.map.ensures.items ∙ lent
