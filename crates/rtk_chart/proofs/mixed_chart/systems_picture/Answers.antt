use Rattle.std.proofs.Common.{append_assoc}
use Rattle.rtk_chart.specs.MixedChart.{systems_picture}
use Rattle.rtk_chart.proofs.mixed_chart.systems_picture.Goals as goal

pub returns : goal.returns
unfolding systems_picture
returns c =
    rw (
      c.in_ok-extend_from_slice-3.ensures.items,
      c.in_ok-extend_from_slice-2.ensures.items,
      c.in_ok-put_time.ensures,
      c.in_ok-put_gap_row.ensures,
      c.in_ok-extend_from_slice.ensures.items,
      c.in_ok-put_numbers.ensures,
      c.in_ok-put_heading.ensures,
      c.new-text.ensures.items,
      c.as_slice-4.ensures.value,
      c.as_slice-3.ensures.value,
      c.as_slice-2.ensures.value,
      c.as_slice.ensures.value,
    ) (simp append_assoc)
