use Rattle.std.proofs.Common.{◌++◌, ◌∙◌, ℕ, List, Option, ap}
use Rattle.rtk_survey.specs.ClockLines.{clock_line_of, compared_clocks}
use Rattle.rtk_survey.specs.declared.clock_chains.ClockOffset.{ClockOffset}
use Rattle.rtk_survey.proofs.ResultLemmas.{on-ok}
use Rattle.rtk_survey.proofs.clock_lines.put_clock.Goals as goal

pub returns : goal.returns
returns c =
    let before : List ℕ = c.args.lines.now.items in
    let letter : ℕ = c.args.letter in
    on-ok c.put_clock_line.result
    (λ put. put ∙ ap (λ (n : ℕ). before ++ clock_line_of letter n c.told_offset.result) c.compared_clocks.ensures
    ∙ ap (λ (o : Option ClockOffset). before ++ clock_line_of letter (compared_clocks c.args.offsets.now) o) c.told_offset.ensures)
    c.put_clock_line.ensures
