use Rattle.rtk_chart.proofs.GridLemmas.{missing-marked, none-marked}
use Rattle.rtk_chart.proofs.grid.mark_missing.Goals as goal

pub returns-then-missing-gt0 : goal.returns-then-missing-gt0
returns-then-missing-gt0 c =
    missing-marked c.args.scale.now c.args.before c.args.moment c.args.missing c.bin_at-from.result c.bin_at-to.result c.args.gaps.now.items c.mark.new.gaps.items
    c.requires.missing c.if-missing-gt0.true c.bin_at-from.ensures c.bin_at-to.ensures c.mark.ensures

pub returns-else-missing-gt0 : goal.returns-else-missing-gt0
returns-else-missing-gt0 c = none-marked c.args.scale.now c.args.before c.args.moment c.args.missing c.args.gaps.now.items c.requires.missing c.if-missing-gt0.false
