use Rattle.std.proofs.Common.{[], sym, ap, ◌∙◌}
use Rattle.rtk_rinex.specs.MixedTable.{MixedTable}
use Rattle.rtk_cut.specs.Extent.{extent_of}
use Rattle.rtk_cut.specs.declared.extent.Extent.{Extent}
use Rattle.rtk_label.specs.TimeLines.{extent_lines}
use Rattle.rtk_commands.proofs.DueLemmas.{no-lines}
use Rattle.rtk_commands.proofs.FileTableLemmas.{whole-table}
use Rattle.rtk_commands.proofs.due_lines.lines_of_mixed.Goals as goal

pub returns-then-are_none : goal.returns-then-are_none
returns-then-are_none c = λ t good e. c.new.ensures ∙ sym (no-lines c.args.times t.epochs (sym c.are_none.ensures ∙ c.if-are_none.true))

pub returns : goal.returns
returns c = λ t good e.
    c.text.ensures.value
    ∙ ap (λ (x : Extent). extent_lines c.args.times x.interval_ms x.last)
    (c.in_ok-extent.ensures t good e ∙ ap (λ (x : MixedTable). extent_of x.epochs) (whole-table c.own_step_gives_file.ensures t good))
