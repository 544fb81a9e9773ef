use Rattle.std.proofs.Common.{IsTrue}
use Rattle.rtk_commands.proofs.FileLemmas.{gathered_contents, whatever, part_if_out}
use Rattle.rtk_commands.proofs.file_command.gathered_by.Goals as goal

pub returns-clause-part : goal.returns-clause-part
returns-clause-part g c =
    part_if_out (g.C.FileCommand.writes c.args.command.now) g.K.Before.had g.K.Before.held
    c.over-source.result.number c.answer_input-target.new.reader.number c.in_ok-target.target.number c.answer_input-target.result.0.number
    (g.R.Read.remaining c.over-source.result.inner) (g.R.Read.remaining c.answer_input-target.new.reader.inner)
    (gathered_contents g.W.Write.contents c.in_ok-target.target.inner) (gathered_contents g.W.Write.contents c.answer_input-target.result.0.inner)
    (g.W.Write.contents c.into_inner-out.result) c.answer_input-target.new.reader.ended
    c.over-source.ensures.number c.requires.one (rw c.over-source.ensures.inner c.requires.had) c.in_ok-target.ensures.held
    (rw c.into_inner-out.ensures c.into_writer-resumed.ensures.rest)
    (whatever (g.C.FileCommand.writes c.args.command.now) _ _ _ _ c.answer_input-target.result.1 _ (IsTrue g.C.FileCommand.IN_PIECES)
    c.answer_input-target.ensures.told c.answer_input-target.ensures.part c.answer_input-target.ensures.memory c.answer_input-target.ensures.nothing
    c.answer_input-target.ensures.whole.to_the_end)
