use Rattle.std.proofs.Common.{◌++◌, ◌∙◌, ℕ, List, Option, sym, ap}
use Rattle.rtk_survey.specs.ClockLines.{clock_line_of, compared_clocks, told_gps, glonass_line}
use Rattle.rtk_survey.specs.declared.clock_chains.ClockOffset.{ClockOffset}
use Rattle.rtk_survey.specs.declared.date_message.UtcDate.{UtcDate}
use Rattle.rtk_survey.proofs.ResultLemmas.{on-ok}
use Rattle.rtk_survey.proofs.clock_lines.put_glonass.Goals as goal

pub returns : goal.returns
returns c =
    let before : List ℕ = c.args.lines.now.items in
    let os : List ClockOffset = c.args.offsets.now in
    on-ok c.put_clock_line.result
    (λ put. put ∙ ap (λ (n : ℕ). before ++ clock_line_of 82 n c.told_gps.result) c.compared_clocks.ensures
    ∙ ap (λ (o : Option ClockOffset). before ++ clock_line_of 82 (compared_clocks os) o) c.told_gps.ensures
    ∙ ap (λ (n : ℕ). before ++ clock_line_of 82 (compared_clocks os) (told_gps n os)) c.leap_seconds_by.ensures
    ∙ ap (λ (o : Option UtcDate). before ++ glonass_line o os) (sym c.in-Some.is))
    c.put_clock_line.ensures
