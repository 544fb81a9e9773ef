use Rattle.std.proofs.Common.{ap, ◌∙◌}
use Rattle.std.proofs.lemmas.Result.{IfOk-weaker}
use Rattle.rtk_commands.specs.FileTable.{FileTable, file_lines}
use Rattle.rtk_commands.proofs.FileTableLemmas.{whole-part}
use Rattle.rtk_commands.proofs.due_lines.lines_of_file.Goals as goal

pub returns : goal.returns
returns c =
    IfOk-weaker c.lines_of_part.result _ _ (λ lines have f good e. have f good e ∙ ap (λ (g : FileTable). file_lines c.args.times g) (whole-part c.own_step_gives_file.ensures f good))
    c.lines_of_part.ensures
