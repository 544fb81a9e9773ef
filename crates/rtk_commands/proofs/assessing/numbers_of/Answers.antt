use Rattle.std.proofs.lemmas.Result.{IfOk-weaker}
use Rattle.rtk_commands.specs.FileTable.{text_of}
use Rattle.rtk_commands.specs.QualityInput.{TellsTable}
use Rattle.rtk_commands.specs.WithLabel.{MakesOfFile, WritesOfTable}
use Rattle.rtk_commands.specs.declared.rendered.Rendered.{Rendered}
use Rattle.rtk_commands.proofs.WithLabelLemmas.{read-parted, read-letter, read-refused, made_of_table, made_of_refused}
use Rattle.rtk_commands.proofs.assessing.numbers_of.Goals as goal

pub numbers_of_file-requires : goal.numbers_of_file-requires
numbers_of_file-requires c = read-letter c.args.text.now c.in_ok-read.read c.in-Ok.file c.in-Ok.is c.in_ok-read.ensures

pub returns-in-Ok : goal.returns-in-Ok
returns-in-Ok c =
    IfOk-weaker c.numbers_of_file.result
    (λ (told : Rendered). MakesOfFile (TellsTable c.args.form) (text_of c.in-Ok.file.table) told.answer told.bytes.items)
    (λ (told : Rendered). WritesOfTable (TellsTable c.args.form) c.args.text.now told.answer told.bytes.items)
    (λ told tells. made_of_table (TellsTable c.args.form) c.args.text.now (text_of c.in-Ok.file.table) c.in-Ok.file.label c.in-Ok.file.times told.answer told.bytes.items
    (read-parted c.args.text.now c.in_ok-read.read c.in-Ok.file c.in-Ok.is c.in_ok-read.ensures) tells)
    c.numbers_of_file.ensures

pub returns-in-Err : goal.returns-in-Err
returns-in-Err c =
    rw (c.refusal.ensures.answer, c.refusal.ensures.bytes)
    (made_of_refused (TellsTable c.args.form) c.args.text.now c.in-Err.fault (read-refused c.args.text.now c.in_ok-read.read c.in-Err.fault c.in-Err.is c.in_ok-read.ensures))
