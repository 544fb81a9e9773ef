use Rattle.std.proofs.Common.{◌∙◌, sym}
use Rattle.rtk_commands.proofs.KeptPartLemmas.{absent-all}
use Rattle.rtk_commands.proofs.kept_part.cut_kept.Goals as goal

pub returns-in-Some-clause-all : goal.returns-in-Some-clause-all
returns-in-Some-clause-all g c =
    absent-all c.args.command c.args.file.table.text c.args.file.times c.args.file.label c.in-Some.system _ c.requires.some (λ t good is. sym c.in-Some.is ∙ c.first_absent.ensures t good is)

pub cut_present-requires-clause-present : goal.cut_present-requires-clause-present
cut_present-requires-clause-present g c = λ t good is. sym (c.first_absent.ensures t good is) ∙ c.in-None.is
