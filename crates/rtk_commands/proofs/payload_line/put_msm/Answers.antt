use Rattle.std.proofs.Common.{append_assoc}
use Rattle.rtk_commands.proofs.payload_line.put_msm.Goals as goal

-- piece by piece
pub returns : goal.returns
returns c = rw (
  c.in_ok-put_named-5.ensures,
  c.in_ok-put_named-4.ensures,
  c.in_ok-put_named-3.ensures,
  c.in_ok-put_named-2.ensures,
  c.in_ok-put_named.ensures,
  c.in_ok-put_number.ensures,
  c.clock_word.ensures,
  c.signal_count.ensures.value,
  c.satellite_count.ensures.value,
) (simp append_assoc)
