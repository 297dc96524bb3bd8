use Rattle.std.proofs.lemmas.List.{take-replicate}
use Rattle.host.proofs.host.Host.zeros.Goals as goal

pub returns : goal.returns
returns t c =
    let h = c.args.self.now in
    take-replicate h.signature 64 0 h.signed.1
