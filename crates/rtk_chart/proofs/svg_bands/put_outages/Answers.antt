use Rattle.std.proofs.Common.{refl}
use Rattle.rtk_chart.specs.SvgPicture.{outage_boxes}
use Rattle.rtk_chart.proofs.svg_bands.put_outages.Goals as goal

pub returns : goal.returns
unfolding outage_boxes
returns c =
    rw (
      c.in_ok-put_runs_layer.ensures,
      c.as_slice-3.ensures.value,
      c.as_slice-2.ensures.value,
      c.as_slice.ensures.value,
      c.in_ok-put_between-2.ensures,
      c.in_ok-put_between.ensures,
      c.new-end.ensures.items,
      c.new-begin.ensures.items,
      c.in_ok-flags.ensures.value,
    ) refl
