use Rattle.std.proofs.Common.{◌≢◌}
use Rattle.rtk_survey.specs.declared.survey_fault.SurveyFault.TheVariants.{Write}
use Rattle.rtk_commands.proofs.ThroughLemmas.{nothing_through}
use Rattle.rtk_commands.proofs.MemoryLemmas.{summary_through, summary_part_through}
use Rattle.rtk_commands.proofs.summarizing.summarize_by.Goals as goal

pub returns : goal.returns
returns g c = record {
  summary = summary_through c.args.name.now g.K.Before.had g.K.Before.held
      c.over-source.result.number c.summarize-done.new.capture.number c.over-target.result.number c.summarize-done.new.out.number
      (g.R.Read.remaining c.over-source.result.inner) (g.R.Read.remaining c.summarize-done.new.capture.inner)
      (g.W.Write.contents c.over-target.result.inner) (g.W.Write.contents c.summarize-done.new.out.inner) (g.W.Write.contents c.into_inner-writer.result)
      c.summarize-done.result c.summarize-done.new.capture.ended
      c.over-source.ensures.number c.requires.one (rw c.over-source.ensures.inner c.requires.had) (rw c.over-target.ensures.inner c.requires.held)
      (rw c.into_inner-writer.ensures)
      c.summarize-done.ensures.summary c.summarize-done.ensures.to_the_end;
  nothing = nothing_through g.K.Before.held c.over-target.result.number c.summarize-done.new.out.number
      (g.W.Write.contents c.over-target.result.inner) (g.W.Write.contents c.summarize-done.new.out.inner) (g.W.Write.contents c.into_inner-writer.result)
      c.summarize-done.result (λ fault. fault ≢ Write)
      c.requires.one (rw c.over-target.ensures.inner c.requires.held) (rw c.into_inner-writer.ensures)
      c.summarize-done.ensures.nothing;
  part = summary_part_through c.args.name.now g.K.Before.had g.K.Before.held
      c.over-source.result.number c.summarize-done.new.capture.number c.over-target.result.number c.summarize-done.new.out.number
      (g.R.Read.remaining c.over-source.result.inner) (g.R.Read.remaining c.summarize-done.new.capture.inner)
      (g.W.Write.contents c.over-target.result.inner) (g.W.Write.contents c.summarize-done.new.out.inner) (g.W.Write.contents c.into_inner-writer.result)
      c.summarize-done.result Write
      c.over-source.ensures.number c.requires.one (rw c.over-source.ensures.inner c.requires.had) (rw c.over-target.ensures.inner c.requires.held)
      (rw c.into_inner-writer.ensures) c.summarize-done.ensures.part;
}
