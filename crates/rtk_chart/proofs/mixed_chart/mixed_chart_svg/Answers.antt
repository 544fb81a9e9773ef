use Rattle.std.proofs.Common.{◌≡◌, ℕ, None, List, Option, sym, ap, ◌∙◌}
use Rattle.rtk_rinex.specs.Record.{EpochTableView}
use Rattle.rtk_tracking.specs.Epochs.{newest_first, newest_moment}
use Rattle.rtk_tracking.specs.Interval.{interval_of_epochs}
use Rattle.rtk_chart.specs.SvgSystems.{systems_svg_of_epochs}
use Rattle.rtk_chart.specs.Steps.SvgParts.{svg_view_of}
use Rattle.rtk_chart.proofs.SvgSystemLemmas.{no-systems-svg, systems-svg-are}
use Rattle.rtk_chart.proofs.mixed_chart.mixed_chart_svg.Goals as goal

pub returns-in_default : goal.returns-in_default
returns-in_default c = λ t is file.
    let es : List EpochTableView = newest_first t.epochs in
    let s = c.in_ok-survey.ensures t is file in
    let parts = c.heading-heading.ensures.parts t is file in
    let none : newest_moment es ≡ None = sym (c.in_default.ensures es s.steps) in
    c.in_ok-text.ensures
    ∙ no-systems-svg t.head.marker c.marker-marker.result.now t.head.listed t.first (interval_of_epochs t.epochs) c.args.choice.now es
    (c.marker-marker.ensures.value ∙ ap (λ h. h.marker) parts.0) none

pub returns : goal.returns
returns c = λ t is file.
    let es : List EpochTableView = newest_first t.epochs in
    let s = c.in_ok-survey.ensures t is file in
    let parts = c.heading-heading.ensures.parts t is file in
    c.in_ok-text-2.ensures
    ∙ systems-svg-are t.head.marker c.marker-marker.result.now t.head.listed c.codes-codes.result.now t.first c.heading-heading.result.first c.in-Some.last
    c.in_ok-survey.survey.records c.interval-interval.result c.args.choice.now c.new-scale.result es (svg_view_of c.in_ok-drawn.drawn) c.in_ok-moments.moments
    (c.marker-marker.ensures.value ∙ ap (λ h. h.marker) parts.0) (c.codes-codes.ensures.value ∙ ap (λ h. h.listed) parts.0) parts.2 (c.in-Some.ensures es s.steps)
    c.new-scale.ensures.value s.records (c.in_ok-drawn.ensures.value t is file) (c.in_ok-moments.ensures.grid t is file)
    ∙ ap (λ (interval : Option ℕ). systems_svg_of_epochs t.head.marker t.head.listed t.first interval c.args.choice.now es) (c.interval-interval.ensures es s.steps)
