use Rattle.std.proofs.Common.{◌≡◌, [], List, Option, ap, subst, ◌∙◌}
use Rattle.rtk_obs.specs.declared.code.Band.{Band}
use Rattle.rtk_rinex.specs.Record.{EpochTableView}
use Rattle.rtk_tracking.specs.Epochs.{newest_first}
use Rattle.rtk_chart.specs.Groups.{group_epochs}
use Rattle.rtk_chart.specs.Means.{columns_of}
use Rattle.rtk_chart.specs.Steps.Standing.{StandsForGrid}
use Rattle.rtk_chart.proofs.StrengthLemmas.{fresh-columns}
use Rattle.rtk_chart.proofs.svg_drawn.grid_of_group.Goals as goal

pub returns-clause-grid : goal.returns-clause-grid
returns-clause-grid c = λ t is text.
    let es : List EpochTableView = group_epochs c.args.drawing.now.choice.now c.args.group (newest_first t.epochs) in
    subst (λ (bs : List (Option Band)). StandsForGrid c.in_ok-grid.grid c.args.drawing.now.scale bs es)
    (c.as_slice.ensures.value ∙ c.in_ok-lower.ensures) (c.in_ok-grid.ensures.grid t is text)

pub returns-clause-upper : goal.returns-clause-upper
returns-clause-upper c = λ t is text.
    let s = c.args.drawing.now.scale in
    let es : List EpochTableView = group_epochs c.args.drawing.now.choice.now c.args.group (newest_first t.epochs) in
    let fresh : c.in_ok-upper.upper.items ≡ columns_of s c.as_slice-2.result.now [] =
    fresh-columns s c.as_slice-2.result.now c.in_ok-upper.upper.items c.none.result (c.in_ok-upper.ensures.items_if_clones_equal (λ y same. same)) c.none.ensures in
    c.in_ok-grid.ensures.columns fresh t is text
    ∙ ap (λ (bs : List (Option Band)). columns_of s bs es) (c.as_slice-2.ensures.value ∙ c.in_ok-higher.ensures)
