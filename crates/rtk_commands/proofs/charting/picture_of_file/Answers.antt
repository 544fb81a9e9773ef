use Rattle.std.proofs.Common.{List, ℕ, subst}
use Rattle.std.proofs.lemmas.Result.{IfOk-weaker}
use Rattle.rtk_commands.specs.ChartInput.{DrawsFile, DrawsMixedFile, DrawsTable}
use Rattle.rtk_commands.specs.FileTable.{text_of}
use Rattle.rtk_commands.specs.WithLabel.{MakesOfFile}
use Rattle.rtk_commands.specs.declared.rendered.Rendered.{Rendered}
use Rattle.rtk_commands.proofs.FileTableLemmas.{of-gps, of-mixed}
use Rattle.rtk_commands.proofs.charting.picture_of_file.Goals as goal

pub returns-in-Gps : goal.returns-in-Gps
returns-in-Gps c =
    IfOk-weaker c.picture_if_any.result
    (λ (drawn : Rendered). DrawsFile c.args.chart.now c.in-Gps.table.text drawn.answer drawn.bytes.items)
    (λ (drawn : Rendered). MakesOfFile (DrawsTable c.args.chart.now) (text_of c.args.table.now) drawn.answer drawn.bytes.items)
    (λ drawn draws f w l. of-gps (λ f. DrawsTable c.args.chart.now f w l drawn.answer drawn.bytes.items) c.args.table.now c.in-Gps.table c.in-Gps.is c.requires.letter
    (λ t good e. subst (λ (x : List ℕ). DrawsFile c.args.chart.now x drawn.answer drawn.bytes.items) e draws) f)
    c.picture_if_any.ensures

pub returns-in-Mixed : goal.returns-in-Mixed
returns-in-Mixed c =
    IfOk-weaker c.mixed_picture_if_any.result
    (λ (drawn : Rendered). DrawsMixedFile c.args.chart.now c.in-Mixed.table.text drawn.answer drawn.bytes.items)
    (λ (drawn : Rendered). MakesOfFile (DrawsTable c.args.chart.now) (text_of c.args.table.now) drawn.answer drawn.bytes.items)
    (λ drawn draws f w l. of-mixed (λ f. DrawsTable c.args.chart.now f w l drawn.answer drawn.bytes.items) c.args.table.now c.in-Mixed.table c.in-Mixed.is c.requires.letter
    (λ t good e. subst (λ (x : List ℕ). DrawsMixedFile c.args.chart.now x drawn.answer drawn.bytes.items) e draws) f)
    c.mixed_picture_if_any.ensures
