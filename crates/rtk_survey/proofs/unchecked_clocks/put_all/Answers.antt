use Rattle.rtk_survey.specs.ClockLines.{clock_lines}
use Rattle.rtk_survey.specs.UncheckedClocks.{unchecked_lines, all_clock_lines}
use Rattle.rtk_survey.proofs.ListLemmas.{and-then}
use Rattle.rtk_survey.proofs.unchecked_clocks.put_all.Goals as goal

pub returns : goal.returns
unfolding all_clock_lines
returns c =
    let s = c.args.offsets.now in
    and-then c.args.lines.now.items c.put_offsets.new.lines.items c.put_unchecked.new.lines.items
    (clock_lines c.args.date s) (unchecked_lines c.args.date c.args.sent.now s)
    c.in_ok-put_offsets.ensures c.in_ok-put_unchecked.ensures
