use Rattle.std.proofs.Common.{refl}
use Rattle.rtk_commands.specs.FileTable.{text_of}
use Rattle.rtk_commands.specs.LabelInput.{LabelsTable}
use Rattle.rtk_commands.proofs.WithLabelLemmas.{read-parted, read-letter, read-refused, all_of_refused}
use Rattle.rtk_commands.proofs.LabelLemmas.{labels, labels_first, has_height}
use Rattle.rtk_commands.proofs.labelling.LabellingFileCommand.write.Goals as goal

pub is_for-requires : goal.is_for-requires
is_for-requires g c = read-letter c.args.text.now c.in-Ok.read c.in-Ok-read.file c.in-Ok-read.is c.in-Ok.ensures

pub lines_of_file-requires : goal.lines_of_file-requires
lines_of_file-requires g c = read-letter c.args.text.now c.in-Ok.read c.in-Ok-read.file c.in-Ok-read.is c.in-Ok.ensures

pub write_with_lines-requires : goal.write_with_lines-requires
write_with_lines-requires g c = read-letter c.args.text.now c.in-Ok.read c.in-Ok-read.file c.in-Ok-read.is c.in-Ok.ensures

pub returns-in-Err-read-clause-all : goal.returns-in-Err-read-clause-all
returns-in-Err-read-clause-all g c =
    all_of_refused (LabelsTable c.args.self.now.label c.args.self.now.times) c.args.text.now c.in-Err-read.fault _
    (read-refused c.args.text.now c.in-Ok.read c.in-Err-read.fault c.in-Err-read.is c.in-Ok.ensures)

pub returns-then-not-is_for-clause-all : goal.returns-then-not-is_for-clause-all
returns-then-not-is_for-clause-all g c =
    let file = c.in-Ok-read.file in
    has_height c.args.self.now.label c.args.self.now.times file.label file.times c.args.text.now (text_of file.table) _ (read-parted c.args.text.now c.in-Ok.read file c.in-Ok-read.is c.in-Ok.ensures)
    (λ t good e for. let held = (c.is_for.ensures t good e).1 for in let not = c.if-not-is_for.ensures in cc)

pub returns-in-Ok-write_with_lines-clause-all : goal.returns-in-Ok-write_with_lines-clause-all
returns-in-Ok-write_with_lines-clause-all g c =
    let file = c.in-Ok-read.file in
    labels c.args.self.now.label c.args.self.now.times file.label file.times c.args.text.now (text_of file.table) c.in-Ok-lines_of_file.lines.items _ _
    (read-parted c.args.text.now c.in-Ok.read file c.in-Ok-read.is c.in-Ok.ensures)
    (λ t good e. (c.if-not-is_for.ensures t good e).0 refl) c.in-Ok-lines_of_file.ensures (rw c.as_slice.ensures.value at c.in-Ok-write_with_lines.ensures.all)

pub returns-in-Err-write_with_lines-clause-part : goal.returns-in-Err-write_with_lines-clause-part
returns-in-Err-write_with_lines-clause-part g c e =
    let file = c.in-Ok-read.file in
    labels_first c.args.self.now.label c.args.self.now.times file.label file.times c.args.text.now (text_of file.table) c.in-Ok-lines_of_file.lines.items _ _
    (read-parted c.args.text.now c.in-Ok.read file c.in-Ok-read.is c.in-Ok.ensures)
    (λ t good e. (c.if-not-is_for.ensures t good e).0 refl) c.in-Ok-lines_of_file.ensures (rw c.as_slice.ensures.value at c.in-Err-write_with_lines.ensures.first)
