use Rattle.std.proofs.Common.{◌≤◌, ℕ, ℤ, List, Option, rules, sym, ap, subst}
use Rattle.rtk_obs.specs.Carriers.{AreChannels}
use Rattle.rtk_rinex.specs.MixedHead.{GlonassView}
use Rattle.rtk_cli.specs.Steps.ConvertWords.{IsLeapSecondsOf}
use Rattle.rtk_cli.proofs.convert_words.glonass_of.Goals as goal

pub returns-clause-channels : goal.returns-clause-channels
returns-clause-channels c = ap (λ (g : GlonassView). g.channels) c.in-Some.ensures.1

pub returns-clause-leap_seconds : goal.returns-clause-leap_seconds
returns-clause-leap_seconds c =
    subst (λ (n : ℕ). IsLeapSecondsOf c.args.leap_seconds c.args.near n) (sym (ap (λ (g : GlonassView). g.leap_seconds) c.in-Some.ensures.1)) c.seconds_of.ensures.said

pub returns-clause-good : goal.returns-clause-good
returns-clause-good c =
    let is = c.in-Some.ensures.1 in
    let good : AreChannels c.args.channels = search rules in
    record {
      channels = subst (λ (cs : List (Option ℤ)). AreChannels cs) (sym (ap (λ (g : GlonassView). g.channels) is)) good;
      leap_seconds = subst (λ (n : ℕ). n ≤ 99) (sym (ap (λ (g : GlonassView). g.leap_seconds) is)) c.in-Some.ensures.0;
    }
