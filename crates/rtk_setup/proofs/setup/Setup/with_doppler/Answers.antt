use Rattle.std.proofs.Common.{ap, sym, subst, ◌∙◌}
use Rattle.rtk_rinex.specs.MixedHead.{MixedHeadView}
use Rattle.rtk_setup.specs.Setup.{SetupView, IsSetupView, AreSameChannels, taken_by, channels_of}
use Rattle.rtk_setup.proofs.setup.Setup.with_doppler.Goals as goal

pub invariant_of-result : goal.invariant_of-result
invariant_of-result c =
    let old = c.self.inside in
    let with : MixedHeadView → SetupView = λ h.
    record { station = old.station; near = old.near; head = h; window = old.window; kinds = old.kinds; leap_seconds = old.leap_seconds; takes_1012 = old.takes_1012 } in
    let good = c.self.invariant.0 in
    let head = good.2 in
    let is = c.with_doppler.ensures in (
      subst (λ (h : MixedHeadView). IsSetupView (with h)) (sym is)
          (good.0, good.1, record { marker = head.marker; listed = head.listed; glonass = head.glonass; made = head.made; whole_second = head.whole_second }, good.3, good.4),
      c.self.invariant.1 ∙ sym (ap (λ (h : MixedHeadView). taken_by (with h)) is),
      subst (λ (h : MixedHeadView). AreSameChannels old.channels (channels_of h.glonass)) (sym is) c.self.invariant.2,
    )
