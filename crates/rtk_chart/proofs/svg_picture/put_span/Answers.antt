use Rattle.std.proofs.Common.{append_assoc}
use Rattle.rtk_obs.proofs.PublicLaws.{reading_is}
use Rattle.rtk_chart.specs.SvgPicture.{svg_span}
use Rattle.rtk_chart.proofs.svg_picture.put_span.Goals as goal

pub returns : goal.returns
unfolding svg_span
returns c =
    rw (
      c.in_ok-extend_from_slice-3.ensures.items,
      c.in_ok-put_interval_words.ensures,
      c.in_ok-put_civil-2.ensures,
      reading_is _ _ c.civil-2.ensures.reading,
      c.in_ok-extend_from_slice-2.ensures.items,
      c.in_ok-put_civil.ensures,
      reading_is _ _ c.civil.ensures.reading,
      c.in_ok-extend_from_slice.ensures.items,
    ) (simp append_assoc)
