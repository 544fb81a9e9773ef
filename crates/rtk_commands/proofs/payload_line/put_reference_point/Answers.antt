use Rattle.std.proofs.Common.{append_assoc}
use Rattle.rtk_commands.specs.Shown.{reference_point}
use Rattle.rtk_commands.proofs.payload_line.put_reference_point.Goals as goal

-- piece by piece
pub returns : goal.returns
unfolding reference_point
returns c =
    rw (
      c.in_ok-put_coordinate-3.ensures,
      c.in_ok-extend_from_slice-3.ensures.items,
      c.in_ok-put_coordinate-2.ensures,
      c.in_ok-extend_from_slice-2.ensures.items,
      c.in_ok-put_coordinate.ensures,
      c.in_ok-extend_from_slice.ensures.items,
      c.in_ok-put_named.ensures,
    ) (simp append_assoc)
