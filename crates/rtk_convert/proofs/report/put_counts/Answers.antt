use Rattle.std.specs.Prelude.{codes}
use Rattle.rtk_setup.specs.Counts.{count_line, count_lines}
use Rattle.rtk_convert.proofs.JoinLemmas.{nine}
use Rattle.rtk_convert.proofs.report.put_counts.Goals as goal

pub returns : goal.returns
unfolding count_lines
returns c =
    let k = c.args.counts.now in
    rw (
      c.in_ok-put_count-9.ensures,
      c.in_ok-put_count-8.ensures,
      c.in_ok-put_count-7.ensures,
      c.in_ok-put_count-6.ensures,
      c.in_ok-put_count-5.ensures,
      c.in_ok-put_count-4.ensures,
      c.in_ok-put_count-3.ensures,
      c.in_ok-put_count-2.ensures,
      c.in_ok-put_count.ensures,
    ) (nine c.args.lines.now.items (count_line (codes "frames ") k.frames) (count_line (codes "other ") k.other) (count_line (codes "refused ") k.refused) (count_line (codes "foreign ") k.foreign) (count_line (codes "taken ") k.taken) (count_line (codes "repeat ") k.repeat) (count_line (codes "conflict ") k.conflict) (count_line (codes "late ") k.late) (count_line (codes "epochs ") k.epochs))
