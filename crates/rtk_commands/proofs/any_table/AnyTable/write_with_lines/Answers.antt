use Rattle.rtk_commands.specs.FileTable.{text_of}
use Rattle.rtk_commands.proofs.LabelledPartLemmas.{wrote-file, wrote-first_of_file, wrote-more_of_file}
use Rattle.rtk_commands.proofs.ResultLemmas.{on_ok-map}
use Rattle.rtk_commands.proofs.any_table.AnyTable.write_with_lines.Goals as goal

pub returns-in_err-write_front_and_lines-clause-first : goal.returns-in_err-write_front_and_lines-clause-first
returns-in_err-write_front_and_lines-clause-first g c =
    wrote-first_of_file c.args.label.now (text_of c.args.self.now) c.args.lines.now (g.W.Sink.taken c.args.out.now) (g.W.Sink.taken c.write_front_and_lines.new.out) c.write_front_and_lines.ensures.first

pub returns-clause-all : goal.returns-clause-all
returns-clause-all g c =
    on_ok-map c.write_all.result
    (λ taken. wrote-file c.args.label.now (text_of c.args.self.now) c.args.lines.now (g.W.Sink.taken c.args.out.now) (g.W.Sink.taken c.write_front_and_lines.new.out) (g.W.Sink.taken c.write_all.new.sink)
    c.in_ok-write_front_and_lines.ensures.all (rw (c.behind_front.ensures, c.as_bytes.ensures) at taken)) c.write_all.ensures.all

pub returns-clause-first : goal.returns-clause-first
returns-clause-first g c =
    wrote-more_of_file c.args.label.now (text_of c.args.self.now) c.args.lines.now (g.W.Sink.taken c.args.out.now) (g.W.Sink.taken c.write_front_and_lines.new.out) (g.W.Sink.taken c.write_all.new.sink)
    c.in_ok-write_front_and_lines.ensures.all (rw (c.behind_front.ensures, c.as_bytes.ensures) at c.write_all.ensures.part)
