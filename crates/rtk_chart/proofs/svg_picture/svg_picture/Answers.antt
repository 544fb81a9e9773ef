use Rattle.std.proofs.Common.{append_assoc}
use Rattle.rtk_chart.specs.SvgPicture.{svg_picture}
use Rattle.rtk_chart.proofs.svg_picture.svg_picture.Goals as goal

pub returns : goal.returns
unfolding svg_picture
returns c =
    rw (
      c.in_ok-put_body.ensures,
      c.in_ok-put_counts.ensures,
      c.in_ok-put_span.ensures,
      c.in_ok-put_start.ensures,
      c.strip_height.ensures.value,
      c.as_slice-4.ensures.value,
      c.never_end-end.ensures.value,
      c.of-spacing.ensures,
      c.drawn_before-satellites.ensures.value,
      c.as_slice-3.ensures.value,
      c.as_slice-2.ensures.value,
      c.as_slice.ensures.value,
      c.new-text.ensures.items,
      c.as_slice-names.ensures.value,
      c.in_ok-listed.ensures.value,
    ) (simp append_assoc)
