use Rattle.std.proofs.Common.{append_assoc}
use Rattle.rtk_chart.specs.TextPicture.{text_picture}
use Rattle.rtk_chart.proofs.text_picture.text_picture.Goals as goal

pub returns : goal.returns
unfolding text_picture
returns c =
    rw (
      c.in_ok-put_body.ensures,
      c.in_ok-put_numbers.ensures,
      c.drawn_before-satellites.ensures.value,
      c.as_slice.ensures.value,
      c.in_ok-put_heading.ensures,
      c.new-text.ensures.items,
    ) (simp append_assoc)
