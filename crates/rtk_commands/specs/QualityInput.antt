-- The command `quality`: what it writes of a table.
use Rattle.std.specs.Prelude.{◌≡◌, ℕ, List}
use Rattle.rtk_rinex.specs.Table.{table_text}
use Rattle.rtk_rinex.specs.MixedTable.{mixed_table_text}
use Rattle.rtk_label.specs.Labelled.{LabelView}
use Rattle.rtk_label.specs.declared.time_lines.TimeLines.{TimeLines}
use Rattle.rtk_quality.specs.MixedQuality.{TellsMixedQuality}
use Rattle.rtk_quality.specs.QualityText.{TellsQuality}
use Rattle.rtk_quality.specs.declared.form.Form.{Form}
use Rattle.rtk_commands.specs.declared.file_answer.FileAnswer.{FileAnswer}
use Rattle.rtk_commands.specs.declared.file_answer.FileAnswer.TheVariants.{Written}
use Rattle.rtk_commands.specs.FileTable.{FileTable, OfGps, OfSystems}

-- these are the numbers of a file of GPS or of any systems
abbrev pub TellsNumbersOf : Form → FileTable → List ℕ → Type 0
TellsNumbersOf form (OfGps t) bytes = TellsQuality form (table_text t) bytes
TellsNumbersOf form (OfSystems t) bytes = TellsMixedQuality form (mixed_table_text t) bytes

-- the numbers of a file, whatever its label and its time lines
abbrev pub TellsTable : Form → FileTable → TimeLines → LabelView → FileAnswer → List ℕ → Type 0
TellsTable form f w l answer bytes = (answer ≡ Written) × TellsNumbersOf form f bytes
