use Rattle.std.proofs.Common.{append_assoc}
use Rattle.std.specs.Prelude.{codes}
use Rattle.rtk_survey.specs.Counting.{count_of}
use Rattle.rtk_survey.specs.Summary.{unread_lines}
use Rattle.rtk_survey.specs.Tracing.{is_other, is_short, is_outside_week, is_too_many_cells}
use Rattle.rtk_survey.proofs.LineLemmas.{counts-are, untaken-are}
use Rattle.rtk_survey.proofs.lines.put_unread.Goals as goal

pub returns : goal.returns
unfolding unread_lines
returns c = λ fs stands.
    let u = c.args.unread.now in
    rw (
      c.in_ok-put_table-4.ensures,
      c.in_ok-put_table-3.ensures,
      c.in_ok-put_table-2.ensures,
      c.in_ok-put_counted.ensures,
      c.in_ok-put_untaken.ensures,
      c.in_ok-put_table.ensures,
      counts-are (codes "other ") u.others (λ n. count_of (is_other n) fs) stands.others,
      untaken-are u.others (λ n. count_of (is_other n) fs) stands.others,
      stands.no_number,
      counts-are (codes "refused M3 ") u.short (λ n. count_of (is_short n) fs) stands.short,
      counts-are (codes "refused M4 ") u.outside_week (λ n. count_of (is_outside_week n) fs) stands.outside_week,
      counts-are (codes "refused M5 ") u.too_many_cells (λ n. count_of (is_too_many_cells n) fs) stands.too_many_cells,
    ) (simp append_assoc)
