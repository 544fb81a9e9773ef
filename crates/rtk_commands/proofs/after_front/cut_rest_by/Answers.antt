use Rattle.rtk_commands.specs.FileTable.{text_of}
use Rattle.rtk_commands.proofs.AfterFrontLemmas.{wrote-rest, wrote-first-of-rest}
use Rattle.rtk_commands.proofs.after_front.cut_rest_by.Goals as goal

pub returns-clause-all : goal.returns-clause-all
returns-clause-all g c =
    wrote-rest c.cut_table-done.result (text_of c.args.table.now) c.args.part (g.W.Sink.taken c.args.out) (g.W.Sink.taken c.into_inner.result) c.cut_table-done.new.out.passed_over
    (rw c.requires.known at c.into_inner.ensures.after)
    (rw (c.over-rest.ensures.out, c.over-rest.ensures.passed_over, c.requires.known, ← c.into_inner.ensures.out) at c.cut_table-done.ensures.all)

pub returns-clause-first : goal.returns-clause-first
returns-clause-first g c =
    wrote-first-of-rest c.cut_table-done.result (text_of c.args.table.now) c.args.part (g.W.Sink.taken c.args.out) (g.W.Sink.taken c.into_inner.result) c.cut_table-done.new.out.passed_over
    (rw c.requires.known at c.into_inner.ensures.after)
    (rw (c.over-rest.ensures.out, c.over-rest.ensures.passed_over, c.requires.known, ← c.into_inner.ensures.out) at c.cut_table-done.ensures.first)
