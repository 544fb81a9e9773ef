use Rattle.std.proofs.Common.{inl}
use Rattle.rtk_commands.specs.ChartInput.{DrawsTable}
use Rattle.rtk_commands.specs.WithLabel.{WritesOfTable}
use Rattle.rtk_commands.proofs.RenderedLemmas.{all_of_rendered, first_of_rendered}
use Rattle.rtk_commands.proofs.charting.ChartFileCommand.write.Goals as goal

pub returns-clause-all : goal.returns-clause-all
returns-clause-all g c = all_of_rendered (WritesOfTable (DrawsTable c.args.self.now) c.args.text.now) c.picture_of_text.result c.write_rendered.result.1 _ _ c.picture_of_text.ensures c.write_rendered.ensures.all

pub returns-clause-part : goal.returns-clause-part
returns-clause-part g c = first_of_rendered (WritesOfTable (DrawsTable c.args.self.now) c.args.text.now) c.picture_of_text.result c.write_rendered.result.1 _ _ c.picture_of_text.ensures c.write_rendered.ensures.part

pub returns-clause-memory : goal.returns-clause-memory
returns-clause-memory g c e = inl (c.write_rendered.ensures.nothing e)
