use Rattle.std.proofs.Common.{refl}
use Rattle.sha256.specs.Window.{four_at}
use Rattle.sha256.proofs.Lanes.{four_more}
use Rattle.sha256.proofs.schedule.next.Goals as goal

pub returns : goal.returns
unfolding four_at
returns c W t S h e₀ e₄ e₈ e₁₂ =
    rw (c.small_sigma1-2.ensures, c.small_sigma0.ensures, c.small_sigma1.ensures, e₀, e₄, e₈, e₁₂) (four_more W t _ _ _ _ S h refl refl refl refl)
