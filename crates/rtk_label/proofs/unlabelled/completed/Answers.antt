use Rattle.std.proofs.Common.{◌≡◌, ◌-◌, List, ℕ, ◌++◌, length, take, drop, ap, refl, ◌∙◌}
use Rattle.std.specs.Fmt.{digits}
use Rattle.rtk_rinex.specs.Columns.{left}
use Rattle.rtk_rinex.specs.Header.{header_line, header_text}
use Rattle.rtk_obs.specs.Reading.{date_after}
use Rattle.rtk_label.specs.Steps.Fronts.{plain_file}
use Rattle.rtk_label.specs.declared.unlabelled.TheConstants.{PLAIN_LINES}
use Rattle.rtk_label.proofs.CutLemmas.{filled_up}
use Rattle.rtk_label.proofs.unlabelled.completed.Goals as goal

lines_are : PLAIN_LINES.now ≡ take 810 plain_file
unfolding header_text header_line left date_after digits
lines_are = refl

pub returns-clause-items : goal.returns-clause-items
returns-clause-items c =
    let lines = c.args.lines.now in
    let from = c.args.from in
    rw (c.add-2.ensures.items, c.columns_at.ensures.value, c.add.ensures.items, c.new-out.ensures)
    (ap (λ (t : List ℕ). lines ++ take (810 - length lines) (drop (length lines - from) t)) lines_are ∙ filled_up lines from c.requires.lines c.requires.from)
