use Rattle.std.proofs.Common.{ℕ, List, ◌++◌, ap, ◌∙◌}
use Rattle.rtk_plan.specs.LabelCommand.{label_text}
use Rattle.rtk_cli.proofs.auto_running.work_of.Goals as goal

pub returns-clause-links : goal.returns-clause-links
returns-clause-links c = rw c.as_slice.ensures.value at c.in_ok-links.ensures

-- the command that is said first names the captures that are read
pub returns-clause-said : goal.returns-clause-said
returns-clause-said c =
    let rest : List ℕ = label_text c.in_ok-told.told c.args.ways.now.output in
    let said = rw c.as_slice-3.ensures.value at c.in_ok-put_same_by_hand.ensures in (
      c.in_ok-named.named.items,
      rest,
      rw c.as_slice-2.ensures.value at c.in_ok-named.ensures,
      c.in_ok-put_label_command.ensures ∙ ap (λ (t : List ℕ). t ++ rest) said,
    )
