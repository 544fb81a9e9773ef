use Rattle.std.proofs.Common.{ℕ, List, true, false, sym, subst, ◌∙◌}
use Rattle.rtk_rinex.specs.declared.epoch_table.SatelliteRow.{SatelliteRow}
use Rattle.rtk_rinex.specs.MixedRecords.{AreRowsLeft, IsNextRowOf}
use Rattle.rtk_chart.proofs.GroupLemmas.{others-first, others-more, others-end, others-all}
use Rattle.rtk_chart.proofs.group_rows.has_chosen_row.Goals as goal

pub loop-satellite-init : goal.loop-satellite-init
loop-satellite-init c = others-first c.args.chosen.now c.args.read.now c.again-rows.result c.again-rows.ensures.value

pub loop-satellite-preserved : goal.loop-satellite-preserved
loop-satellite-preserved c =
    let l = c.loop-satellite in
    let row : SatelliteRow = record { satellite = c.index.result; observed = c.next_row.new.observed } in
    let next : (xs : List SatelliteRow) → AreRowsLeft l.rows xs → IsNextRowOf xs row c.next_row.new.self =
    λ xs left. subst (λ (k : ℕ). IsNextRowOf xs (record { satellite = k; observed = c.next_row.new.observed }) c.next_row.new.self) (sym c.index.ensures.value) (c.in-Some.ensures.next xs left) in
    others-more c.args.chosen.now c.args.read.now l.rows c.next_row.new.self row l.invariant next (sym c.is_chosen.ensures ∙ c.if-is_chosen.false)

pub returns-then-is_chosen : goal.returns-then-is_chosen
returns-then-is_chosen c =
    let l = c.loop-satellite in
    let row : SatelliteRow = record { satellite = c.index.result; observed = c.next_row.new.observed } in
    let next : (xs : List SatelliteRow) → AreRowsLeft l.rows xs → IsNextRowOf xs row c.next_row.new.self =
    λ xs left. subst (λ (k : ℕ). IsNextRowOf xs (record { satellite = k; observed = c.next_row.new.observed }) c.next_row.new.self) (sym c.index.ensures.value) (c.in-Some.ensures.next xs left) in
    others-end c.args.chosen.now c.args.read.now l.rows c.next_row.new.self row l.invariant next (sym c.is_chosen.ensures ∙ c.if-is_chosen.true)

pub returns : goal.returns
returns c = others-all c.args.chosen.now c.args.read.now c.loop-satellite.rows c.loop-satellite.invariant c.in_default.ensures.next
