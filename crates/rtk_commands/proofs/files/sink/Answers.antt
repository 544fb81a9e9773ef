use Rattle.rtk_commands.proofs.PassedLemmas.{over_writer}
use Rattle.rtk_commands.proofs.files.sink.Goals as goal

pub over-requires : goal.over-requires
over-requires g c = record {
  known = over_writer c.in_ok-writer.writer c.new.result (λ writer. g.W.Write.contents writer.inner) (g.K.Before.held c.args.number)
      c.in_ok-writer.ensures.inner c.in_ok-writer.ensures.empty (rw c.new.ensures c.requires.known);
}

pub returns-clause-held : goal.returns-clause-held
returns-clause-held g c =
    rw c.over.ensures.inner
    (over_writer c.in_ok-writer.writer c.new.result (λ writer. g.W.Write.contents writer.inner) (g.K.Before.held c.args.number)
    c.in_ok-writer.ensures.inner c.in_ok-writer.ensures.empty (rw c.new.ensures c.requires.known))
