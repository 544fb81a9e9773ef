use Rattle.std.proofs.Common.{append_assoc}
use Rattle.rtk_chart.specs.TextPicture.{text_body}
use Rattle.rtk_chart.proofs.text_picture.put_body.Goals as goal

pub returns : goal.returns
unfolding text_body
returns c =
    rw (
      c.in_ok-extend_from_slice-2.ensures.items,
      c.in_ok-put_never.ensures,
      c.never_in_line.ensures.value,
      c.in_ok-put_time.ensures,
      c.in_ok-put_gap_row.ensures,
      c.in_ok-put_rows.ensures,
      c.in_ok-extend_from_slice.ensures.items,
      c.as_slice-3.ensures.value,
      c.as_slice-2.ensures.value,
      c.as_slice.ensures.value,
      c.as_slice-bins.ensures.value,
      c.gps_names-names.ensures.value,
    ) (simp append_assoc)
