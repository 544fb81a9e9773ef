use Rattle.std.proofs.Common.{◌<◌, ◌≤◌, ◌/◌, ℕ, List, length, ap, ◌∙◌, arith}
use Rattle.rtk_rinex.specs.declared.epoch_table.SatelliteRow.{SatelliteRow}
use Rattle.rtk_chart.specs.Scale.{bin_at}
use Rattle.rtk_chart.specs.Means.{all_without}
use Rattle.rtk_chart.specs.Steps.Added.{with_rows}
use Rattle.rtk_chart.proofs.StrengthLemmas.{column-more, column-beyond, column-there, columns-size}
use Rattle.rtk_chart.proofs.strengths.note_strengths.Goals as goal

pub returns-then-place-len : goal.returns-then-place-len
returns-then-place-len c = λ es are.
    let s = c.args.scale.now in
    let listed = c.args.bands.now in
    let e = c.args.epoch.now in
    let items = c.args.columns.now.items in
    let size = columns-size s listed es items are in
    let bin = c.bin_at-bin.ensures ∙ ap (bin_at s) (c.ms.ensures.value ∙ c.time.ensures) in
    let at = ap (λ (k : ℕ). k / c.bins_per_column.result) bin ∙ ap (λ (k : ℕ). bin_at s e.time / k) c.bins_per_column.ensures.value in
    let known = c.args.columns.now.ok.0 in
    let len = c.len.ensures in
    let test = c.if-place-len.true in
    let old = c.index_mut.result.now in
    let within : c.bin_at-bin.result / c.bins_per_column.result < 144 = omega (arith, size, known, len, test) in
    column-more s listed e es items (c.bin_at-bin.result / c.bins_per_column.result) old c.add_rows.new.self all_without at within are
    (c.index_mut.ensures.value ∙ column-there s listed es items _ old within are)
    (c.add_rows.ensures ∙ ap (λ (rows : List SatelliteRow). with_rows listed rows old) c.rows.ensures.value)

pub returns-else-place-len : goal.returns-else-place-len
returns-else-place-len c = λ es are.
    let s = c.args.scale.now in
    let e = c.args.epoch.now in
    let bin = c.bin_at-bin.ensures ∙ ap (bin_at s) (c.ms.ensures.value ∙ c.time.ensures) in
    let at = ap (λ (k : ℕ). k / c.bins_per_column.result) bin ∙ ap (λ (k : ℕ). bin_at s e.time / k) c.bins_per_column.ensures.value in
    let known = c.args.columns.now.ok.0 in
    let len = c.len.ensures in
    let test = c.if-place-len.false in
    let beyond : length c.args.columns.now.items ≤ c.bin_at-bin.result / c.bins_per_column.result = omega (arith, known, len, test) in
    column-beyond s c.args.bands.now e es c.args.columns.now.items _ at beyond are
