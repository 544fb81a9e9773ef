use Rattle.rtk_commands.specs.FileTable.{text_of}
use Rattle.rtk_commands.proofs.LabelledPartLemmas.{wrote-two, wrote-first_of_two, wrote-more_of_two}
use Rattle.rtk_commands.proofs.ResultLemmas.{on_ok-map}
use Rattle.rtk_commands.proofs.any_table.AnyTable.write_front_and_lines.Goals as goal

pub returns-in_err-write_front-clause-first : goal.returns-in_err-write_front-clause-first
returns-in_err-write_front-clause-first g c =
    wrote-first_of_two c.args.label.now (text_of c.args.self.now) c.args.lines.now (g.W.Sink.taken c.args.out.now) (g.W.Sink.taken c.write_front.new.out) c.write_front.ensures.first

pub returns-clause-all : goal.returns-clause-all
returns-clause-all g c =
    on_ok-map c.write_all.result
    (wrote-two c.args.label.now (text_of c.args.self.now) c.args.lines.now (g.W.Sink.taken c.args.out.now) (g.W.Sink.taken c.write_front.new.out) (g.W.Sink.taken c.write_all.new.sink) c.in_ok-write_front.ensures.all)
    c.write_all.ensures.all

pub returns-clause-first : goal.returns-clause-first
returns-clause-first g c =
    wrote-more_of_two c.args.label.now (text_of c.args.self.now) c.args.lines.now (g.W.Sink.taken c.args.out.now) (g.W.Sink.taken c.write_front.new.out) (g.W.Sink.taken c.write_all.new.sink)
    c.in_ok-write_front.ensures.all c.write_all.ensures.part
