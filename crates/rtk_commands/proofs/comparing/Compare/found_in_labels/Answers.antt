use Rattle.std.proofs.Common.{Bool, [], sym, subst}
use Rattle.rtk_compare.specs.Differences.{HasFindings}
use Rattle.rtk_commands.specs.CompareInput.{lines_of_labels}
use Rattle.rtk_commands.proofs.comparing.Compare.found_in_labels.Goals as goal

pub returns : goal.returns
returns c =
    subst (λ (b : Bool). HasFindings c.compare_labels.new.findings (lines_of_labels b c.args.old.now c.args.new.now)) (sym c.if-not-self.false)
    (c.compare_labels.ensures.adds [] c.none-findings.ensures)
