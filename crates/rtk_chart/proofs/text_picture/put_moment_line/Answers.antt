use Rattle.std.proofs.Common.{append_assoc}
use Rattle.rtk_obs.proofs.PublicLaws.{reading_is}
use Rattle.rtk_chart.proofs.text_picture.put_moment_line.Goals as goal

pub returns : goal.returns
returns c =
    rw (
      c.in_ok-extend_from_slice-2.ensures.items,
      c.in_ok-put_civil.ensures,
      reading_is _ _ c.civil.ensures.reading,
      c.in_ok-extend_from_slice.ensures.items,
    ) (simp append_assoc)
