use Rattle.std.proofs.Common.{ap, ◌∙◌}
use Rattle.rtk_systems.specs.ClockOffsets.{systems_with_clocks}
use Rattle.rtk_rinex.specs.SystemFlags.{in_both}
use Rattle.rtk_systems.specs.declared.clock_seconds.ClockSeconds.{ClockSeconds}
use Rattle.rtk_rinex.specs.declared.system_flags.SystemFlags.{SystemFlags}
use Rattle.rtk_plan.proofs.station_setup.systems_taken.Goals as goal

pub returns : goal.returns
returns c =
    c.both.ensures
    ∙ ap (λ (right : SystemFlags). in_both c.args.wanted right)
    (c.in_ok-right.ensures ∙ ap (λ (s : ClockSeconds). systems_with_clocks c.args.surveys.now c.args.station s) c.seconds_compared-leap_seconds.ensures)
