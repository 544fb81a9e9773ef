use Rattle.std.proofs.Common.{append_assoc}
use Rattle.rtk_chart.specs.SvgPicture.{band_text}
use Rattle.rtk_chart.proofs.svg_bands.put_band.Goals as goal

pub returns : goal.returns
unfolding band_text
returns c =
    rw (
      c.in_ok-extend_from_slice.ensures.items,
      c.in_ok-put_code_lines.ensures,
      c.in_ok-put_outages.ensures,
      c.in_ok-put_band_start.ensures,
      c.band_top-top.ensures.value,
      c.height_of-height.ensures.value,
    ) (simp append_assoc)
