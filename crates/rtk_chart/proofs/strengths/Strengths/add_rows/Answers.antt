use Rattle.std.proofs.Common.{◌≤◌, ◌+◌, ◌∷◌, length, drop, List, sym, ap, ◌∙◌, arith}
use Rattle.std.proofs.lemmas.List.{at_drop_more, at_drop_all}
use Rattle.rtk_rinex.specs.declared.epoch_table.Observed.{Observed}
use Rattle.rtk_rinex.specs.declared.epoch_table.SatelliteRow.{SatelliteRow}
use Rattle.rtk_chart.specs.Steps.Added.{with_row, with_rows}
use Rattle.rtk_chart.specs.declared.strengths.Strengths.{Strengths}
use Rattle.rtk_chart.proofs.strengths.Strengths.add_rows.Goals as goal

pub loop-row-preserved : goal.loop-row-preserved
loop-row-preserved c =
    let row : SatelliteRow = c.row-item.result in
    let rest : List SatelliteRow = drop (c.loop-row.row-index + 1) c.args.rows.now in
    c.loop-row.invariant
    ∙ at_drop_more (λ (rows : List SatelliteRow). with_rows c.args.bands.now rows c.loop-row.self) c.args.rows.now c.loop-row.row-index row c.loop-row-test.true
    ∙ ap (λ (r : SatelliteRow). with_rows c.args.bands.now (r ∷ rest) c.loop-row.self) (sym c.row-item.is)
    ∙ ap (λ (os : List Observed). with_rows c.args.bands.now rest (with_row c.args.bands.now os c.loop-row.self)) (sym c.as_slice.ensures.value)
    ∙ ap (λ (s : Strengths). with_rows c.args.bands.now rest s) (sym c.add_row.ensures)

pub returns : goal.returns
returns c =
    let end : length c.args.rows.now ≤ c.loop-row.row-index = omega (arith, c.loop-row-test.false) in
    sym (c.loop-row.invariant ∙ at_drop_all (λ (rows : List SatelliteRow). with_rows c.args.bands.now rows c.loop-row.self) c.args.rows.now c.loop-row.row-index end)
