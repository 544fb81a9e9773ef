use Rattle.std.proofs.Common.{append_assoc}
use Rattle.rtk_chart.specs.SvgPicture.{svg_body}
use Rattle.rtk_chart.proofs.svg_picture.put_body.Goals as goal

pub returns : goal.returns
unfolding svg_body
returns c =
    rw (
      c.in_ok-extend_from_slice-2.ensures.items,
      c.in_ok-put_legend.ensures,
      c.in_ok-put_ticks.ensures,
      c.strip_height.ensures.value,
      c.in_ok-put_strip.ensures,
      c.bins_per_column-each.ensures.value,
      c.as_slice-strengths.ensures.value,
      c.in_ok-put_satellites.ensures,
      c.as_slice-2.ensures.value,
      c.in_ok-counts.ensures.value,
      c.in_ok-put_gaps.ensures,
      c.in_ok-put_never_texts.ensures,
      c.band_top-bands_end.ensures.value,
      c.in_ok-put_bands.ensures,
      c.in_ok-extend_from_slice.ensures.items,
      c.as_slice.ensures.value,
      c.as_slice-outages.ensures.value,
      c.as_slice-bins.ensures.value,
      c.gps_names-names.ensures.value,
    ) (simp append_assoc)
