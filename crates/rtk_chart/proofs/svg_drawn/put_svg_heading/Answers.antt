use Rattle.std.proofs.Common.{append_assoc}
use Rattle.rtk_chart.specs.SvgSystems.{svg_heading}
use Rattle.rtk_chart.proofs.svg_drawn.put_svg_heading.Goals as goal

pub returns : goal.returns
unfolding svg_heading
returns c =
    rw (c.in_ok-extend_from_slice-2.ensures.items, c.in_ok-extend_from_slice.ensures.items, c.svg_title.ensures, c.in_ok-put_between.ensures) (simp append_assoc)
