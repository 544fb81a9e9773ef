use Rattle.std.proofs.lemmas.Result.{IfOk-weaker}
use Rattle.rtk_commands.specs.ChartInput.{DrawsTable}
use Rattle.rtk_commands.specs.FileTable.{text_of}
use Rattle.rtk_commands.specs.WithLabel.{MakesOfFile, WritesOfTable}
use Rattle.rtk_commands.specs.declared.rendered.Rendered.{Rendered}
use Rattle.rtk_commands.proofs.WithLabelLemmas.{read-parted, read-letter, read-refused, made_of_table, made_of_refused}
use Rattle.rtk_commands.proofs.charting.picture_of_text.Goals as goal

pub picture_of_file-requires-clause-letter : goal.picture_of_file-requires-clause-letter
picture_of_file-requires-clause-letter c = read-letter c.args.text.now c.in_ok-read.read c.in-Ok.file c.in-Ok.is c.in_ok-read.ensures

pub returns-in-Ok : goal.returns-in-Ok
returns-in-Ok c =
    IfOk-weaker c.picture_of_file.result
    (λ (drawn : Rendered). MakesOfFile (DrawsTable c.args.chart.now) (text_of c.in-Ok.file.table) drawn.answer drawn.bytes.items)
    (λ (drawn : Rendered). WritesOfTable (DrawsTable c.args.chart.now) c.args.text.now drawn.answer drawn.bytes.items)
    (λ drawn draws. made_of_table (DrawsTable c.args.chart.now) c.args.text.now (text_of c.in-Ok.file.table) c.in-Ok.file.label c.in-Ok.file.times drawn.answer drawn.bytes.items
    (read-parted c.args.text.now c.in_ok-read.read c.in-Ok.file c.in-Ok.is c.in_ok-read.ensures) draws)
    c.picture_of_file.ensures

pub returns-in-Err : goal.returns-in-Err
returns-in-Err c =
    rw (c.refusal.ensures.answer, c.refusal.ensures.bytes)
    (made_of_refused (DrawsTable c.args.chart.now) c.args.text.now c.in-Err.fault (read-refused c.args.text.now c.in_ok-read.read c.in-Err.fault c.in-Err.is c.in_ok-read.ensures))
