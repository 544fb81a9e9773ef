use Rattle.std.proofs.Common.{append_assoc}
use Rattle.rtk_commands.proofs.payload_line.put_1012.Goals as goal

-- piece by piece
pub returns : goal.returns
returns c = rw (
  c.in_ok-put_named-3.ensures,
  c.in_ok-put_named-2.ensures,
  c.in_ok-put_named.ensures,
  c.len.ensures.value,
) (simp append_assoc)
