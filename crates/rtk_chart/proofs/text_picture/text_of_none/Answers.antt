use Rattle.std.proofs.Common.{append_assoc}
use Rattle.rtk_chart.specs.TextPicture.{text_of_none}
use Rattle.rtk_chart.proofs.text_picture.text_of_none.Goals as goal

pub returns : goal.returns
unfolding text_of_none
returns c = rw (c.in_ok-extend_from_slice-3.ensures.items, c.in_ok-extend_from_slice-2.ensures.items, c.in_ok-extend_from_slice.ensures.items, c.new-text.ensures.items) (simp append_assoc)
