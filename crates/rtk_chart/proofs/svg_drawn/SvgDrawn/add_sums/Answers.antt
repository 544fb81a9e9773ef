use Rattle.std.proofs.Common.{◌≡◌, ℕ, List, ◌+◌, ◌*◌, ◌++◌, length, refl, ap, ◌∙◌}
use Rattle.rtk_chart.specs.MixedChart.{both_numbers}
use Rattle.rtk_chart.specs.SvgPath.{tracked_counts}
use Rattle.rtk_chart.specs.SvgPicture.{never_texts, lacked_before}
use Rattle.rtk_chart.specs.SvgSystems.{counts_with, columns_with}
use Rattle.rtk_chart.specs.declared.drawn.DrawnNumbers.{DrawnNumbers}
use Rattle.rtk_chart.specs.declared.strengths.Strengths.{Strengths}
use Rattle.rtk_chart.specs.declared.svg_drawn.SvgDrawn.{SvgDrawn}
use Rattle.rtk_chart.specs.declared.time_bin.TimeBin.{TimeBin}
use Rattle.rtk_chart.proofs.SvgSystemLemmas.{svg-view-is}
use Rattle.rtk_chart.proofs.svg_drawn.SvgDrawn.add_sums.Goals as goal

pub returns-clause-value : goal.returns-clause-value
returns-clause-value c =
    let old : SvgDrawn = c.args.self.now in
    let bins : c.as_slice-bins.result.now ≡ c.args.grid.now.bins.items = c.as_slice-bins.ensures.value in
    svg-view-is old.bands.items old.bands.items old.top old.top _ _ _ _ _ _ _ _ _ _ _ _ refl refl
    (c.in_ok-put_never_texts.ensures ∙ ap (λ (x : List TimeBin). old.never.items ++ never_texts c.args.names x (18 + 24 * old.lines) 0 c.args.listed.now) bins)
    (ap (λ (n : ℕ). old.lines + n) (c.lacked_before.ensures.value ∙ ap (λ (x : List TimeBin). lacked_before x (length c.args.listed.now)) bins))
    (c.and-self.ensures ∙ ap (λ (m : DrawnNumbers). both_numbers old.numbers m) c.of_grid.ensures)
    (c.in_ok-tracked.ensures.value ∙ ap (λ (x : List ℕ). counts_with x c.as_slice-2.result.now) c.as_slice.ensures.value
    ∙ ap (λ (x : List ℕ). counts_with old.tracked.items x) (c.as_slice-2.ensures.value ∙ c.in_ok-counts.ensures.value ∙ ap (λ (x : List TimeBin). tracked_counts x) bins))
    (c.in_ok-lower.ensures ∙ ap (λ (x : List Strengths). columns_with x c.as_slice-4.result.now) c.as_slice-3.ensures.value
    ∙ ap (λ (x : List Strengths). columns_with old.lower.items x) c.as_slice-4.ensures.value)
    (c.in_ok-higher.ensures ∙ ap (λ (x : List Strengths). columns_with x c.args.upper.now) c.as_slice-5.ensures.value)

pub returns-clause-bins : goal.returns-clause-bins
returns-clause-bins c = c.in_ok-tracked.ensures.size ∙ ap (λ (x : List ℕ). length x) c.as_slice.ensures.value
