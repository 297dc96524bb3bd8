use Rattle.std.proofs.Common.{arith}
use Rattle.std.proofs.lemmas.List.{length-take-le}
use Rattle.hmac.proofs.scheme.HmacScheme.sign.Goals as goal

pub copy_from_slice-requires : goal.copy_from_slice-requires
copy_from_slice-requires c = let n = length-take-le 32 c.args.out.now c.in_ok-check_sign.ensures.may_sign.3 in omega arith
