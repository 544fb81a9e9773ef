use Rattle.std.proofs.Common.{refl}
use Rattle.rtk_label.proofs.front.plain.Goals as goal

pub returns : goal.returns
returns c = rw (c.put_plain_middle.ensures.items, c.put_plain_top.ensures.items, c.new-out.ensures) refl
