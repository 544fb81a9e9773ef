use Rattle.rtk_commands.specs.FileTable.{text_of}
use Rattle.rtk_commands.proofs.ResultLemmas.{if-not-failed, on_ok-map, on_err-map}
use Rattle.rtk_commands.proofs.LabelledPartLemmas.{wrote-part, wrote-none, wrote-first, wrote-more}
use Rattle.rtk_commands.proofs.cutting.cut_labelled.Goals as goal

pub returns-in-Err-clause-first : goal.returns-in-Err-clause-first
returns-in-Err-clause-first g c = wrote-none c.args.file.now.label c.args.file.now.times (text_of c.args.file.now.table) c.args.part.now (g.W.Sink.taken c.args.out)

pub returns-then-is_err-clause-first : goal.returns-then-is_err-clause-first
returns-then-is_err-clause-first g c =
    wrote-first c.args.file.now.label c.args.file.now.times (text_of c.args.file.now.table) c.in-Ok.lines.items c.args.part.now _ _ c.in-Ok.ensures
    (rw c.as_slice.ensures.value at c.write_front_and_lines.ensures.first)

pub returns-clause-all : goal.returns-clause-all
returns-clause-all g c =
    on_ok-map c.cut_rest.result.1 (wrote-part c.args.file.now.label c.args.file.now.times (text_of c.args.file.now.table) c.in-Ok.lines.items c.args.part.now _ (g.W.Sink.taken c.write_front_and_lines.new.out) _ c.in-Ok.ensures
    (rw c.as_slice.ensures.value at (if-not-failed c.write_front_and_lines.result c.is_err.result c.is_err.ensures.value c.if-is_err.false c.write_front_and_lines.ensures.all))) c.cut_rest.ensures.all

pub returns-clause-first : goal.returns-clause-first
returns-clause-first g c =
    on_err-map c.cut_rest.result.1 (wrote-more c.args.file.now.label c.args.file.now.times (text_of c.args.file.now.table) c.in-Ok.lines.items c.args.part.now _ (g.W.Sink.taken c.write_front_and_lines.new.out) _ c.in-Ok.ensures
    (rw c.as_slice.ensures.value at (if-not-failed c.write_front_and_lines.result c.is_err.result c.is_err.ensures.value c.if-is_err.false c.write_front_and_lines.ensures.all))) c.cut_rest.ensures.first
