use Rattle.std.proofs.Common.{append_assoc}
use Rattle.rtk_commands.proofs.payload_line.put_1006.Goals as goal

-- piece by piece
pub returns : goal.returns
returns c =
    rw (c.in_ok-put_metres.ensures, c.in_ok-extend_from_slice-2.ensures.items, c.in_ok-put_reference_point.ensures, c.in_ok-extend_from_slice.ensures.items)
    (simp append_assoc)
