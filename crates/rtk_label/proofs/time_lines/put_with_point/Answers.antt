use Rattle.std.proofs.Common.{refl}
use Rattle.rtk_label.proofs.time_lines.put_with_point.Goals as goal

pub returns-clause-items : goal.returns-clause-items
returns-clause-items c =
    rw (c.put_right.ensures.items, c.as_slice.ensures.value, c.add-2.ensures.items, c.add.ensures.items, c.new-text.ensures, c.as_bytes.ensures.value, c.format.ensures.text) refl
