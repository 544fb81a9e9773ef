use Rattle.std.proofs.Common.{List, length, ap, ◌∙◌}
use Rattle.rtk_chart.specs.SvgPicture.{band_top}
use Rattle.rtk_chart.specs.Steps.SvgParts.{svg_view_of}
use Rattle.rtk_chart.specs.TextPicture.{satellites_in}
use Rattle.rtk_chart.specs.declared.spacing.Spacing.TheVariants.{Close}
use Rattle.rtk_chart.specs.declared.time_bin.TimeBin.{TimeBin}
use Rattle.rtk_chart.proofs.SvgSystemLemmas.{svg-none, svg-some, not-drawn, some-drawn}
use Rattle.rtk_chart.proofs.svg_drawn.SvgDrawn.add_grid.Goals as goal

pub returns-then-satellites-eq0-clause-value : goal.returns-then-satellites-eq0-clause-value
returns-then-satellites-eq0-clause-value c =
    svg-none c.args.system c.args.first c.args.listed.now c.args.names c.args.grid.now c.args.upper.now (svg_view_of c.args.self.now) c.drawn_before-satellites.result
    (c.drawn_before-satellites.ensures.value ∙ ap (λ (x : List TimeBin). satellites_in x) c.as_slice-bins.ensures.value) c.if-satellites-eq0.true

pub returns-then-satellites-eq0-clause-drawn : goal.returns-then-satellites-eq0-clause-drawn
returns-then-satellites-eq0-clause-drawn c =
    not-drawn c.args.grid.now.bins.items c.drawn_before-satellites.result
    (c.drawn_before-satellites.ensures.value ∙ ap (λ (x : List TimeBin). satellites_in x) c.as_slice-bins.ensures.value) c.if-satellites-eq0.true

pub returns-clause-value : goal.returns-clause-value
returns-clause-value c =
    svg-some c.args.system c.args.first c.args.listed.now c.args.names c.args.grid.now c.args.upper.now (svg_view_of c.args.self.now) _
    c.put_moved_bands.new.text.items c.put_heading_if_first.new.text.items c.drawn_before-satellites.result c.heading_height.result c.band_top-end.result c.saturating_sub-height.result
    (c.drawn_before-satellites.ensures.value ∙ ap (λ (x : List TimeBin). satellites_in x) c.as_slice-bins.ensures.value) (λ none. c.if-satellites-eq0.false none)
    c.heading_height.ensures.value c.in_ok-put_heading_if_first.ensures c.in_ok-put_moved_bands.ensures
    (c.band_top-end.ensures.value ∙ ap (λ (x : List TimeBin). band_top Close x (length c.args.listed.now) 32) c.as_slice-bins.ensures.value)
    c.saturating_sub-height.ensures c.in_ok-add_sums.ensures.value

pub returns-clause-drawn : goal.returns-clause-drawn
returns-clause-drawn c =
    some-drawn c.args.grid.now.bins.items c.drawn_before-satellites.result
    (c.drawn_before-satellites.ensures.value ∙ ap (λ (x : List TimeBin). satellites_in x) c.as_slice-bins.ensures.value) (λ none. c.if-satellites-eq0.false none)
