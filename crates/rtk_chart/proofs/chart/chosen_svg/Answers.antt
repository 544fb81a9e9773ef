use Rattle.std.proofs.Common.{◌≡◌, ℕ, None, List, map, Option, sym, ap, ◌∙◌}
use Rattle.std.proofs.lemmas.List.{length-map}
use Rattle.rtk_rinex.specs.Record.{EpochTableView}
use Rattle.rtk_tracking.specs.Epochs.{capped, newest_first, newest_moment}
use Rattle.rtk_tracking.specs.Interval.{interval_of_file}
use Rattle.rtk_chart.specs.SvgPicture.{svg_of_none}
use Rattle.rtk_chart.specs.Chart.{svg_of_epochs}
use Rattle.rtk_chart.specs.Choice.{narrowed}
use Rattle.rtk_chart.proofs.ChoiceLemmas.{newest-narrowed}
use Rattle.rtk_chart.proofs.ChartLemmas.{no-svg, svg-is}
use Rattle.rtk_chart.proofs.chart.chosen_svg.Goals as goal

pub returns-in_default : goal.returns-in_default
returns-in_default c = λ t is file.
    let es : List EpochTableView = newest_first t.epochs in
    let chosen : List EpochTableView = map (narrowed c.args.choice.now) es in
    let s = c.in_ok-survey.ensures t is file in
    let parts = c.heading-heading.ensures.parts t is file in
    let none : newest_moment chosen ≡ None = newest-narrowed c.args.choice.now es ∙ sym (c.in_default.ensures es s.steps) in
    c.in_ok-svg.ensures ∙ ap svg_of_none (c.marker-marker.ensures.value ∙ ap (λ h. h.marker) parts.0)
    ∙ no-svg t.head.marker t.head.listed t.first (interval_of_file t) chosen none

pub returns : goal.returns
returns c = λ t is file.
    let es : List EpochTableView = newest_first t.epochs in
    let chosen : List EpochTableView = map (narrowed c.args.choice.now) es in
    let parts = c.heading-heading.ensures.parts t is file in
    let s = c.in_ok-survey.ensures t is file in
    let g = c.in_ok-grid.ensures.grid t is file in
    c.in_ok-svg-2.ensures ∙ svg-is t.head.marker c.marker-marker.result.now t.head.listed c.codes-codes.result.now c.as_slice.result.now t.first c.heading-heading.result.first c.in-Some.last
    c.in_ok-survey.survey.records c.interval-interval.result c.new-scale.result c.in_ok-grid.grid chosen
    (c.marker-marker.ensures.value ∙ ap (λ h. h.marker) parts.0) (c.codes-codes.ensures.value ∙ ap (λ h. h.listed) parts.0) (c.as_slice.ensures.value ∙ c.in_ok-bands.ensures) parts.2 (c.in-Some.ensures es s.steps ∙ sym (newest-narrowed c.args.choice.now es)) c.new-scale.ensures.value
    (s.records ∙ ap (λ (n : ℕ). capped n) (sym (length-map es (narrowed c.args.choice.now)))) g
    ∙ ap (λ (interval : Option ℕ). svg_of_epochs t.head.marker t.head.listed t.first interval chosen) (c.interval-interval.ensures es s.steps)
