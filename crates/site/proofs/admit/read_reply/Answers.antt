use Rattle.std.proofs.Common.{◌≡◌, sym, ◌∙◌, rules}
use denote.Enum.Bare.{same_true}
use Rattle.message.specs.contracts.code.Code.{the_type}
use Rattle.message.specs.Reply.{asked}
use Rattle.site.proofs.Admitting.{reply_read}
use Rattle.site.proofs.Reading.{well_read}
use Rattle.site.proofs.admit.read_reply.Goals as goal

pub returns-then-eq : goal.returns-then-eq
returns-then-eq c =
    let n = c.args.size in
    let g = c.args.g in
    let bs = c.args.bytes.now in
    let m = c.in-Ok.reply in
    let read = c.in-Ok.ensures.reads.1 in
    let well = well_read n g bs m (λ k. (c.type_inv.bytes k).fits) c.in-Ok.ensures.undoes read in
    let same : asked m.found ≡ c.args.code = sym c.code.ensures ∙ same_true the_type (search rules) _ _ (sym c.if-eq.ensures) in
    reply_read n g c.args.code bs m read same well.0 well.1 c.in-Ok.ensures.placed
