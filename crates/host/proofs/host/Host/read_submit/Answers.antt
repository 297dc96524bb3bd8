use Rattle.message.specs.Submit.{submit, submitted}
use Rattle.host.specs.Messages.{FormedSubmit}
use Rattle.host.proofs.Reading.{submit_formed, of_any_size, reads_formed}
use Rattle.host.proofs.host.Host.read_submit.Goals as goal

pub returns : goal.returns
returns t c =
    let h = c.args.self.now in
    let f = submit h.size h.signature in
    let bs = c.args.bytes.now in
    reads_formed f submitted bs (FormedSubmit h.size h.signature) c.read.result (λ k. (c.type_inv.bytes k).fits) c.read.ensures.undoes (submit_formed h.size h.signature)
    (of_any_size f submitted bs h.size c.read.result h.sized c.read.ensures.reads)
