use Rattle.rtk_label.proofs.time_lines.begins_with.Goals as goal

pub returns : goal.returns
returns c = rw c.columns_at.ensures.value at c.is_same.ensures
