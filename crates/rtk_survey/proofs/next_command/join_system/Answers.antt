use Rattle.std.proofs.Common.{◌≡◌, ◌||◌, ◌&&◌, ◌∙◌, Bool, List, true, false, not, get_or, refl, sym, ap}
use Rattle.rtk_obs.specs.AnyCode.{number_of}
use Rattle.rtk_survey.specs.BitMarks.{is_marked_in}
use Rattle.rtk_survey.specs.Chains.{no_clocks, clocks_at}
use Rattle.rtk_survey.specs.NextCommand.{number_by}
use Rattle.rtk_survey.specs.Steps.OtherSystems.{codes_held_by}
use Rattle.rtk_survey.specs.Steps.Tables.{system_epochs_held}
use Rattle.rtk_survey.specs.WrongClocks.{is_system_wrong}
use Rattle.rtk_survey.specs.declared.clock_chains.ClockSurvey.{ClockSurvey}
use Rattle.rtk_survey.proofs.next_command.join_system.Goals as goal

left-out : (wrong has was : Bool) → wrong ≡ true → was ≡ ((not wrong && has) || was)
left-out true has was is = refl
left-out false has was is = cc

kept-in : (wrong has was : Bool) → wrong ≡ false → (has || was) ≡ ((not wrong && has) || was)
kept-in true has was is = cc
kept-in false has was is = refl

pub returns-then-are_clocks_wrong : goal.returns-then-are_clocks_wrong
returns-then-are_clocks_wrong c = λ k.
    let s = c.args.station.now in
    let clocks = ap (λ (cs : List ClockSurvey). is_system_wrong c.args.date (get_or cs 0 no_clocks).offsets c.args.system) c.as_slice.ensures.value in
    left-out (is_system_wrong c.args.date (clocks_at s.clocks).offsets c.args.system) (codes_held_by s (number_by (system_epochs_held s) c.args.system) k)
    (is_marked_in c.args.marks.now.words (number_of k)) (sym clocks ∙ sym c.are_clocks_wrong.ensures ∙ c.if-are_clocks_wrong.true)
