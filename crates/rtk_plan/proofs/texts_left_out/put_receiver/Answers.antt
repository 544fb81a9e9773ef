use Rattle.std.proofs.Common.{append_assoc}
use Rattle.rtk_plan.specs.TextsLeftOut.{receiver_left_out}
use Rattle.rtk_plan.proofs.texts_left_out.put_receiver.Goals as goal

pub returns : goal.returns
unfolding receiver_left_out
returns c = rw (c.in_ok-put_text-3.ensures, c.in_ok-put_text-2.ensures, c.in_ok-put_text.ensures) (simp append_assoc)
