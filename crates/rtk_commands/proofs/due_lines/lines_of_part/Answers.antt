use Rattle.std.proofs.Common.{[], sym, ap, ◌∙◌}
use Rattle.rtk_cut.specs.declared.extent.Extent.{Extent}
use Rattle.rtk_label.specs.TimeLines.{extent_lines}
use Rattle.rtk_commands.specs.CutInput.{part_of_file}
use Rattle.rtk_commands.specs.FileTable.{file_epochs}
use Rattle.rtk_commands.proofs.DueLemmas.{no-lines}
use Rattle.rtk_commands.proofs.due_lines.lines_of_part.Goals as goal

pub returns-then-are_none : goal.returns-then-are_none
returns-then-are_none c = λ f good e.
    c.new.ensures ∙ sym (no-lines c.args.times (file_epochs (part_of_file c.args.part f)) (sym c.are_none.ensures ∙ c.if-are_none.true))

pub returns : goal.returns
returns c = λ f good e.
    c.text.ensures.value ∙ ap (λ (x : Extent). extent_lines c.args.times x.interval_ms x.last) (c.in_ok-extent.ensures f good e)
