use Rattle.rtk_compare.specs.declared.difference.Class.TheVariants.{Lost, Changed, Explained}
use Rattle.rtk_compare.proofs.findings.Findings.none.Goals as goal

pub returns : goal.returns
returns c = record { lost = c.none-lost.ensures Lost; changed = c.none-changed.ensures Changed; explained = c.none-explained.ensures Explained }
