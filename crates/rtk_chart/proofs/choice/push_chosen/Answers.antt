use Rattle.std.proofs.Common.{◌≡◌, ◌<◌, ◌++◌, ℕ, Bool, List, [], ◌∷◌, length, take, sym, ap, subst, ◌∙◌, arith}
use Rattle.std.specs.Prelude.{All}
use Rattle.std.specs.List.{filter}
use Rattle.rtk_rinex.specs.declared.epoch_table.Observed.{Observed}
use Rattle.rtk_rinex.specs.declared.epoch_table.SatelliteRow.{SatelliteRow}
use Rattle.rtk_rinex.specs.Record.{EpochTableView, IsSatelliteRow}
use Rattle.rtk_chart.specs.Choice.{is_chosen}
use Rattle.rtk_chart.proofs.ChoiceLemmas.{chosen-below, chosen-few, chosen-more, chosen-same}
use Rattle.rtk_chart.proofs.choice.push_chosen.Goals as goal
use Rattle.rtk_chart.proofs.choice.push_chosen.Goals.{then-is_chosen, else-is_chosen}

pub push_row-requires-clause-good : goal.push_row-requires-clause-good
push_row-requires-clause-good c =
    let r = c.row-item.result in
    let good : IsSatelliteRow r = subst (λ (x : SatelliteRow). IsSatelliteRow x) (sym c.row-item.is) (c.requires.good c.loop-row.row-index r c.loop-row-test.true) in
    subst (λ (xs : List Observed). IsSatelliteRow (record { satellite = r.satellite; observed = record { items = xs } })) (sym c.as_slice.ensures.value) good

pub push_row-requires-clause-later : goal.push_row-requires-clause-later
push_row-requires-clause-later c =
    let r = c.row-item.result in
    let p : SatelliteRow → Bool = λ x. is_chosen c.args.chosen.now x.satellite in
    subst (λ (xs : List SatelliteRow). All (λ x. x.satellite < r.satellite) xs) (sym c.loop-row.invariant.rows)
    (chosen-below p c.args.rows.now c.loop-row.row-index r c.requires.rise c.loop-row-test.true c.row-item.is)

pub push_row-requires-clause-room : goal.push_row-requires-clause-room
push_row-requires-clause-room c =
    let p : SatelliteRow → Bool = λ x. is_chosen c.args.chosen.now x.satellite in
    let few = chosen-few p c.args.rows.now c.loop-row.row-index c.loop-row-test.true in
    let same : length c.loop-row.narrow.rows ≡ length (filter p (take c.loop-row.row-index c.args.rows.now)) = ap (λ (xs : List SatelliteRow). length xs) c.loop-row.invariant.rows in
    omega (arith, few, same, c.requires.few, c.loop-row-test.true)

pub loop-row-preserved : goal.loop-row-preserved
loop-row-preserved c =
    let r : SatelliteRow = c.row-item.result in
    let rows : List SatelliteRow = c.args.rows.now in
    let k : ℕ = c.loop-row.row-index in
    let p : SatelliteRow → Bool = λ x. is_chosen c.args.chosen.now x.satellite in
    let i = c.loop-row.invariant in
    elim c.if-is_chosen.branch [
      | then-is_chosen w ↦
          let same : record { satellite = r.satellite; observed = record { items = w.as_slice.result.now } } ≡ r = ap (λ (xs : List Observed). record { satellite = r.satellite; observed = record { items = xs } }) w.as_slice.ensures.value in
          let pushed : w.push_row.new.self.rows ≡ c.loop-row.narrow.rows ++ r ∷ [] = ap (λ (e : EpochTableView). e.rows) w.push_row.ensures ∙ ap (λ (x : SatelliteRow). c.loop-row.narrow.rows ++ x ∷ []) same in
          record {
            time = ap (λ (e : EpochTableView). e.time) (w.narrow-is ∙ w.push_row.ensures) ∙ i.time;
            rows = ap (λ (e : EpochTableView). e.rows) w.narrow-is ∙ pushed ∙ ap (λ xs. xs ++ r ∷ []) i.rows
                ∙ sym (chosen-more p rows k r c.loop-row-test.true c.row-item.is (sym c.is_chosen.ensures ∙ w.if-is_chosen.true));
          }
      | else-is_chosen w ↦
          record {
            time = ap (λ (e : EpochTableView). e.time) w.narrow-is ∙ i.time;
            rows = ap (λ (e : EpochTableView). e.rows) w.narrow-is ∙ i.rows
                ∙ sym (chosen-same p rows k r c.loop-row-test.true c.row-item.is (sym c.is_chosen.ensures ∙ w.if-is_chosen.false));
          }
    ]
