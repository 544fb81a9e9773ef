use Rattle.std.proofs.Common.{Bool, true, cond, map, List, sym, ap, ◌∙◌}
use Rattle.std.specs.List.{range_with_len}
use Rattle.rtk_chart.specs.Steps.Shown.{both_codes, both_trackings}
use Rattle.rtk_chart.specs.declared.code_marks.CodeMarks.{CodeMarks}
use Rattle.rtk_chart.specs.declared.tracking.Tracking.{Tracking}
use Rattle.rtk_chart.proofs.GridLemmas.{tracking_with}
use Rattle.rtk_chart.proofs.tracking.Tracking.add.Goals as goal

-- the marks of both if the satellite has a row
abbrev with_row : Tracking → Tracking → Bool → Tracking
with_row a b seen = cond seen (tracking_with (map (both_codes a.codes b.codes) (range_with_len 0 16)) true) b

pub returns-then-has_row : goal.returns-then-has_row
unfolding both_trackings
returns-then-has_row c =
    ap (λ (ms : List CodeMarks). tracking_with ms true) c.add_codes.ensures ∙ sym (ap (with_row c.args.more.now c.args.self.now) c.if-has_row.true)

pub returns-else-has_row : goal.returns-else-has_row
unfolding both_trackings
returns-else-has_row c = sym (ap (with_row c.args.more.now c.args.self.now) c.if-has_row.false)
