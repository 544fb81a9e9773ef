use Rattle.std.proofs.Common.{append_assoc}
use Rattle.rtk_chart.specs.SvgPicture.{svg_of_none}
use Rattle.rtk_chart.proofs.svg_picture.svg_of_none.Goals as goal

pub returns : goal.returns
unfolding svg_of_none
returns c =
    rw (
      c.in_ok-extend_from_slice.ensures.items,
      c.in_ok-put_start.ensures,
      c.new-text.ensures.items,
    ) (simp append_assoc)
