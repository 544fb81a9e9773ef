use Rattle.std.proofs.Common.{◌≤◌, ℕ, ℤ, List, Option, rules, sym, ap, subst}
use Rattle.rtk_obs.specs.Carriers.{AreChannels}
use Rattle.rtk_rinex.specs.MixedHead.{GlonassView}
use Rattle.rtk_systems.specs.SlotChannels.{AreChannelsChosen, AreSecondsChosen}
use Rattle.rtk_plan.proofs.station_setup.glonass_of.Goals as goal

pub returns-clause-found : goal.returns-clause-found
returns-clause-found c =
    let is = c.in-Some.ensures.1 in
    record {
      channels_are =
          subst (λ (cs : List (Option ℤ)). AreChannelsChosen c.args.channels.now c.args.surveys.now c.args.station c.args.taken cs) (sym (ap (λ (g : GlonassView). g.channels) is)) c.channels_chosen-channels.ensures;
      seconds_are = subst (λ (n : ℕ). AreSecondsChosen c.args.seconds.now c.args.near n) (sym (ap (λ (g : GlonassView). g.leap_seconds) is)) c.seconds_chosen-seconds.ensures.said;
    }

pub returns-clause-good : goal.returns-clause-good
returns-clause-good c =
    let is = c.in-Some.ensures.1 in
    let good : AreChannels c.channels_chosen-channels.result = search rules in
    record {
      channels = subst (λ (cs : List (Option ℤ)). AreChannels cs) (sym (ap (λ (g : GlonassView). g.channels) is)) good;
      leap_seconds = subst (λ (n : ℕ). n ≤ 99) (sym (ap (λ (g : GlonassView). g.leap_seconds) is)) c.in-Some.ensures.0;
    }
