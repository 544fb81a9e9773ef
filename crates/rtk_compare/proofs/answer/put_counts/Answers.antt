use Rattle.std.proofs.Common.{append_assoc}
use Rattle.rtk_compare.proofs.answer.put_counts.Goals as goal

pub returns : goal.returns
returns c = rw (c.in_ok-put_count-3.ensures, c.in_ok-put_count-2.ensures, c.in_ok-put_count.ensures) (simp append_assoc)
