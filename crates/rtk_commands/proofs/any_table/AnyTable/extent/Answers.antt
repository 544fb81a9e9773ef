use Rattle.std.proofs.Common.{◌≡◌}
use Rattle.std.proofs.lemmas.Result.{IfOk-weaker}
use Rattle.rtk_cut.specs.Extent.{extent_of}
use Rattle.rtk_commands.specs.CutInput.{part_of_file}
use Rattle.rtk_commands.specs.FileTable.{file_epochs}
use Rattle.rtk_commands.proofs.FileTableLemmas.{of-gps, of-mixed}
use Rattle.rtk_commands.proofs.any_table.AnyTable.extent.Goals as goal

pub returns-in-Gps : goal.returns-in-Gps
returns-in-Gps c =
    IfOk-weaker c.extent_of_part.result _ _
    (λ extent. of-gps (λ f. extent ≡ extent_of (file_epochs (part_of_file c.args.part f))) c.args.self.now c.in-Gps.table c.in-Gps.is c.requires.letter) c.extent_of_part.ensures

pub returns-in-Mixed : goal.returns-in-Mixed
returns-in-Mixed c =
    IfOk-weaker c.extent_of_mixed_part.result _ _
    (λ extent. of-mixed (λ f. extent ≡ extent_of (file_epochs (part_of_file c.args.part f))) c.args.self.now c.in-Mixed.table c.in-Mixed.is c.requires.letter) c.extent_of_mixed_part.ensures
