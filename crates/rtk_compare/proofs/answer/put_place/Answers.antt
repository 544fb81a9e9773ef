use Rattle.std.proofs.Common.{append_assoc}
use Rattle.rtk_compare.proofs.answer.put_place.Goals as goal

pub returns : goal.returns
returns c = rw (c.in_ok-put_slot_of.ensures, c.in_ok-put_code_of.ensures, c.in_ok-put_satellite_of.ensures, c.in_ok-put_time_of.ensures) (simp append_assoc)
