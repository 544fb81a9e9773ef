use Rattle.std.proofs.Common.{inr, refl}
use Rattle.std.proofs.lemmas.Result.{IfOk-at_ok}
use Rattle.rtk_commands.specs.FileTable.{text_of}
use Rattle.rtk_commands.specs.CutInput.{CutsTable, CountsPartOfFile}
use Rattle.rtk_commands.proofs.ResultLemmas.{if-done, if-failed}
use Rattle.rtk_commands.proofs.WithLabelLemmas.{read-parted, read-letter, read-refused, all_of_refused}
use Rattle.rtk_commands.proofs.LabelledPartLemmas.{cuts, cuts_first}
use Rattle.rtk_commands.proofs.cutting.PartFileCommand.write.Goals as goal

pub cut_labelled-out-requires-clause-letter : goal.cut_labelled-out-requires-clause-letter
cut_labelled-out-requires-clause-letter g c = read-letter c.args.text.now c.in-Ok.read c.in-Ok-read.file c.in-Ok-read.is c.in-Ok.ensures

pub returns-in-Err-read-clause-all : goal.returns-in-Err-read-clause-all
returns-in-Err-read-clause-all g c =
    all_of_refused (CutsTable c.args.self.now) c.args.text.now c.in-Err-read.fault _ (read-refused c.args.text.now c.in-Ok.read c.in-Err-read.fault c.in-Err-read.is c.in-Ok.ensures)

pub returns-in-Ok-done-clause-all : goal.returns-in-Ok-done-clause-all
returns-in-Ok-done-clause-all g c =
    let file = c.in-Ok-read.file in
    cuts c.args.text.now (text_of file.table) file.label file.times c.args.self.now _ _ _ (read-parted c.args.text.now c.in-Ok.read file c.in-Ok-read.is c.in-Ok.ensures)
    (if-done c.cut_labelled-out.result.1 c.in-Ok-done.is c.cut_labelled-out.ensures.all)
    (IfOk-at_ok (CountsPartOfFile (text_of file.table) c.args.self.now) c.in-Ok-done.is c.cut_labelled-out.ensures.counts)

pub returns-in-Err-done-clause-part : goal.returns-in-Err-done-clause-part
returns-in-Err-done-clause-part g c e =
    let file = c.in-Ok-read.file in
    cuts_first c.args.text.now (text_of file.table) file.label file.times c.args.self.now _ _ (read-parted c.args.text.now c.in-Ok.read file c.in-Ok-read.is c.in-Ok.ensures)
    (if-failed c.cut_labelled-out.result.1 c.in-Err-done.is c.cut_labelled-out.ensures.first)

pub returns-in-Err-done-clause-memory : goal.returns-in-Err-done-clause-memory
returns-in-Err-done-clause-memory g c e =
    let file = c.in-Ok-read.file in
    inr (
      refl,
      cuts_first c.args.text.now (text_of file.table) file.label file.times c.args.self.now _ _ (read-parted c.args.text.now c.in-Ok.read file c.in-Ok-read.is c.in-Ok.ensures)
          (if-failed c.cut_labelled-out.result.1 c.in-Err-done.is c.cut_labelled-out.ensures.first),
    )
