use Rattle.std.proofs.Common.{append_assoc}
use Rattle.rtk_chart.specs.SvgPicture.{gaps_band}
use Rattle.rtk_chart.proofs.svg_axis.put_gaps.Goals as goal

pub returns : goal.returns
unfolding gaps_band
returns c =
    rw (
      c.in_ok-extend_from_slice.ensures.items,
      c.in_ok-put_runs_layer.ensures,
      c.in_ok-put_between.ensures,
    ) (simp append_assoc)
