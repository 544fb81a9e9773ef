use Rattle.rtk_compare.proofs.FindingLemmas.{adds-more}
use Rattle.rtk_compare.proofs.labels.compare_receiver.Goals as goal

pub returns : goal.returns
returns c = rw (← c.old.view_is) (rw (← c.new.view_is) (adds-more (adds-more c.compare_field.ensures c.compare_field-2.ensures) c.compare_field-3.ensures))
