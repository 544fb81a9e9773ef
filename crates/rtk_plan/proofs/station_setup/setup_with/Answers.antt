use Rattle.std.proofs.Common.{◌≡◌, ◌∙◌, ℕ, Option, sym, ap, subst}
use Rattle.rtk_rinex.specs.MixedHead.{GlonassView, MixedHeadView}
use Rattle.rtk_setup.specs.Setup.{SetupView}
use Rattle.rtk_systems.specs.SlotChannels.{IsGlonassFound}
use Rattle.rtk_systems.specs.SystemMsms.{kinds_listed}
use Rattle.rtk_plan.specs.Plan.{marker_chosen}
use Rattle.rtk_plan.proofs.station_setup.setup_with.Goals as goal

-- each part is the one that is given
pub returns : goal.returns
returns c =
    let ss = c.args.surveys.now in
    let w = c.args.wanted.now in
    let taken = c.args.taken in
    let listed = c.args.listed.now in
    let seconds = c.args.seconds.now in
    let is = c.setup_of.ensures in
    let head = c.head_of-head.ensures in
    let glonass : c.setup_of.result.head.glonass ≡ c.glonass_found-glonass.result = ap (λ (s : SetupView). s.head.glonass) is ∙ ap (λ (h : MixedHeadView). h.glonass) head in
    record {
      station_is = ap (λ (s : SetupView). s.station) is;
      near_is = ap (λ (s : SetupView). s.near) is;
      kinds_are = ap (λ (s : SetupView). s.kinds) is ∙ ap (λ (h : MixedHeadView). kinds_listed taken.kinds h.listed) head;
      listed_are = ap (λ (s : SetupView). s.head.listed) is ∙ ap (λ (h : MixedHeadView). h.listed) head;
      marker_is =
          ap (λ (s : SetupView). s.head.marker) is ∙ ap (λ (h : MixedHeadView). h.marker) head ∙ c.marker_of-marker.ensures
          ∙ ap (λ (n : ℕ). marker_chosen w.marker n) c.number-number.ensures.value;
      made_is = ap (λ (s : SetupView). s.head.made) is ∙ ap (λ (h : MixedHeadView). h.made) head;
      window_is = ap (λ (s : SetupView). s.window) is;
      glonass_is =
          subst (λ (g : Option GlonassView). IsGlonassFound ss c.args.station taken listed w.channels seconds c.args.near g) (sym glonass)
          (subst (λ (n : ℕ). IsGlonassFound ss n taken listed w.channels seconds c.args.near c.glonass_found-glonass.result) c.number-number.ensures.value
          (subst (λ (n : ℕ). IsGlonassFound ss c.number-number.result taken listed w.channels seconds n c.glonass_found-glonass.result) c.moment-moment.ensures.value c.glonass_found-glonass.ensures.found));
      seconds_are = ap (λ (s : SetupView). s.leap_seconds) is;
      takes_is = ap (λ (s : SetupView). s.takes_1012) is;
      doppler_is = ap (λ (s : SetupView). s.head.doppler) is ∙ ap (λ (h : MixedHeadView). h.doppler) head;
    }
