use Rattle.std.proofs.Common.{refl}
use Rattle.rtk_label.proofs.front.filled.Goals as goal

pub returns-clause-value : goal.returns-clause-value
returns-clause-value c =
    rw (c.put_middle.ensures.items, c.put_number_line.ensures.items, c.put_top.ensures.items, c.new-out.ensures, ← c.label.view_is, c.as_slice.ensures.value, c.columns_at.ensures.value, c.columns_at-2.ensures.value) refl
