use Rattle.std.proofs.Common.{rules}
use Rattle.rtk_message.proofs.Obs1012Lemmas.{fit_at}
use Rattle.rtk_message.proofs.obs1012.satellites_fit.Goals as goal

pub returns-then-not-fits : goal.returns-then-not-fits
returns-then-not-fits c = (
  λ h. absurd (search rules),
  λ p.
      let one = fit_at c.args.satellites.now c.loop-satellite.satellite-index _ c.loop-satellite-test.true p in
      rw (← c.if-not-fits.true) (c.fits.ensures.1 one),
)
