use Rattle.std.specs.Prelude.{Decides}
use Rattle.rtk_label.specs.Labelled.{IsFor}
use Rattle.rtk_commands.specs.FileTable.{file_site}
use Rattle.rtk_commands.proofs.FileTableLemmas.{of-gps, of-mixed}
use Rattle.rtk_commands.proofs.any_table.AnyTable.is_for.Goals as goal

pub returns-in-Gps : goal.returns-in-Gps
returns-in-Gps c = of-gps (λ f. Decides c.is_for.result (IsFor c.args.label.now (file_site f))) c.args.self.now c.in-Gps.table c.in-Gps.is c.requires c.is_for.ensures

pub returns-in-Mixed : goal.returns-in-Mixed
returns-in-Mixed c = of-mixed (λ f. Decides c.is_for_mixed.result (IsFor c.args.label.now (file_site f))) c.args.self.now c.in-Mixed.table c.in-Mixed.is c.requires c.is_for_mixed.ensures
