use Rattle.std.proofs.Common.{Bool, ◌++◌, ap, ◌∙◌}
use Rattle.rtk_plan.specs.KnownLines.{few_phases_line_if, few_phases_line}
use Rattle.rtk_plan.proofs.phase_lines.put_few_phases_of.Goals as goal

pub returns : goal.returns
unfolding few_phases_line
returns c = c.in_ok-put_few_phases_line.ensures ∙ ap (λ (has : Bool). c.args.lines.now.items ++ few_phases_line_if has c.args.code) c.has_few_phases.ensures
