-- The command `chart`: what it writes of a table.
use Rattle.std.specs.Prelude.{◌≡◌, ◌⊎◌, ℕ, Bool, true, false, List, [], Option, None, Some}
use Rattle.rtk_rinex.specs.MixedTable.{mixed_table_text}
use Rattle.rtk_rinex.specs.Table.{table_text}
use Rattle.rtk_label.specs.Labelled.{LabelView}
use Rattle.rtk_label.specs.declared.time_lines.TimeLines.{TimeLines}
use Rattle.rtk_tracking.specs.Epochs.{HoldsOfEpochs}
use Rattle.rtk_chart.specs.Choice.{is_there}
use Rattle.rtk_chart.specs.Chart.{ShowsChosen, ShowsChosenInSvg}
use Rattle.rtk_chart.specs.Groups.{HoldsOfMixed}
use Rattle.rtk_chart.specs.MixedChart.{ShowsSystems}
use Rattle.rtk_chart.specs.SvgSystems.{ShowsSystemsInSvg}
use Rattle.rtk_chart.specs.declared.choice.Choice.{Choice}
use Rattle.rtk_commands.specs.declared.charting.Chart.{Chart}
use Rattle.rtk_commands.specs.declared.file_answer.FileAnswer.{FileAnswer}
use Rattle.rtk_commands.specs.declared.file_answer.FileAnswer.TheVariants.{Written, NoneChosen}
use Rattle.rtk_commands.specs.FileTable.{FileTable, OfGps, OfSystems}

-- a picture of the choice of a file: in characters if a width is given, else in SVG
abbrev pub IsPicture : Option ℕ → Choice → List ℕ → List ℕ → Type 0
IsPicture None choice file picture = ShowsChosenInSvg choice file picture
IsPicture (Some width) choice file picture = ShowsChosen choice file width picture

-- the file has something of the choice, or nothing
abbrev pub Has : Choice → List ℕ → Bool → Type 0
Has choice file some = HoldsOfEpochs file (λ es. some ≡ is_there choice es)

-- a picture of what is chosen of a file; or the file has nothing of it, and nothing is written
abbrev pub DrawsFile : Chart → List ℕ → FileAnswer → List ℕ → Type 0
DrawsFile chart file answer bytes =
    ((answer ≡ Written) × Has chart.choice file true × IsPicture chart.width chart.choice file bytes)
    ⊎ ((answer ≡ NoneChosen) × Has chart.choice file false × (bytes ≡ []))

-- the same of a file with other systems
abbrev pub HasOfSystems : Choice → List ℕ → Bool → Type 0
HasOfSystems choice file some = HoldsOfMixed file (λ es. some ≡ is_there choice es)

abbrev pub IsMixedPicture : Option ℕ → Choice → List ℕ → List ℕ → Type 0
IsMixedPicture None choice file picture = ShowsSystemsInSvg choice file picture
IsMixedPicture (Some width) choice file picture = ShowsSystems choice file width picture

abbrev pub DrawsMixedFile : Chart → List ℕ → FileAnswer → List ℕ → Type 0
DrawsMixedFile chart file answer bytes =
    ((answer ≡ Written) × HasOfSystems chart.choice file true × IsMixedPicture chart.width chart.choice file bytes)
    ⊎ ((answer ≡ NoneChosen) × HasOfSystems chart.choice file false × (bytes ≡ []))

-- a picture of what is chosen of a file
abbrev pub IsPictureOf : Chart → FileTable → List ℕ → Type 0
IsPictureOf chart (OfGps t) picture = IsPicture chart.width chart.choice (table_text t) picture
IsPictureOf chart (OfSystems t) picture = IsMixedPicture chart.width chart.choice (mixed_table_text t) picture

-- the same of a file, whatever its label and its time lines
abbrev pub DrawsTable : Chart → FileTable → TimeLines → LabelView → FileAnswer → List ℕ → Type 0
DrawsTable chart (OfGps t) w l answer bytes = DrawsFile chart (table_text t) answer bytes
DrawsTable chart (OfSystems t) w l answer bytes = DrawsMixedFile chart (mixed_table_text t) answer bytes
