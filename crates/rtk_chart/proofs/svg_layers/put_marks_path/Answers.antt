use Rattle.std.proofs.Common.{append_assoc}
use Rattle.rtk_chart.specs.SvgPicture.{marks_path}
use Rattle.rtk_chart.proofs.svg_layers.put_marks_path.Goals as goal

pub returns : goal.returns
unfolding marks_path
returns c =
    rw (
      c.in_ok-extend_from_slice.ensures.items,
      c.in_ok-put_marks.ensures,
      c.in_ok-put_path_start.ensures,
    ) (simp append_assoc)
