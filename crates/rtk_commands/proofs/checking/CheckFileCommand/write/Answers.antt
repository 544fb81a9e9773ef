use Rattle.std.proofs.Common.{inl}
use Rattle.rtk_commands.specs.CheckInput.{WritesVerdict}
use Rattle.rtk_commands.proofs.RenderedLemmas.{all_of_rendered, first_of_rendered}
use Rattle.rtk_commands.proofs.checking.CheckFileCommand.write.Goals as goal

pub returns-clause-all : goal.returns-clause-all
returns-clause-all g c = all_of_rendered (WritesVerdict c.args.text.now) c.verdict_of.result c.write_rendered.result.1 _ _ c.verdict_of.ensures c.write_rendered.ensures.all

pub returns-clause-part : goal.returns-clause-part
returns-clause-part g c = first_of_rendered (WritesVerdict c.args.text.now) c.verdict_of.result c.write_rendered.result.1 _ _ c.verdict_of.ensures c.write_rendered.ensures.part

pub returns-clause-memory : goal.returns-clause-memory
returns-clause-memory g c e = inl (c.write_rendered.ensures.nothing e)
