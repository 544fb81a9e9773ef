use Rattle.std.proofs.Common.{◌≡◌, ◌++◌, ◌∷◌, [], ℕ, List, sym, ap, subst, ◌∙◌, arith}
use Rattle.rtk_rinex.specs.declared.epoch_table.Observed.{Observed}
use Rattle.rtk_rinex.specs.declared.epoch_table.SatelliteRow.{SatelliteRow}
use Rattle.rtk_rinex.specs.MixedRecords.{AreRowsLeft, IsNextRowOf}
use Rattle.rtk_rinex.specs.Record.{EpochTableView, IsSatelliteRow}
use Rattle.rtk_chart.proofs.GroupLemmas.{group-more, group-past, group-not, placed-good}
use Rattle.rtk_chart.proofs.group_rows.read_group.Goals as goal

pub loop-satellite-preserved-in_default-group_place : goal.loop-satellite-preserved-in_default-group_place
loop-satellite-preserved-in_default-group_place c =
    let l = c.loop-satellite in
    let row : SatelliteRow = record { satellite = c.index.result; observed = c.next_row.new.observed } in
    let next : (xs : List SatelliteRow) → AreRowsLeft l.rows xs → IsNextRowOf xs row c.next_row.new.self =
    λ xs left. subst (λ (k : ℕ). IsNextRowOf xs (record { satellite = k; observed = c.next_row.new.observed }) c.next_row.new.self) (sym c.index.ensures.value) (c.in-Some.ensures.next xs left) in
    record {
      time = l.invariant.time;
      group = group-past c.args.choice.now c.args.group c.args.read.now l.rows c.next_row.new.self l.own.rows row l.last l.invariant.group next (sym c.in_default-group_place.ensures.value);
    }

pub loop-satellite-preserved-then-place-last : goal.loop-satellite-preserved-then-place-last
loop-satellite-preserved-then-place-last c =
    let l = c.loop-satellite in
    let row : SatelliteRow = record { satellite = c.index.result; observed = c.next_row.new.observed } in
    let next : (xs : List SatelliteRow) → AreRowsLeft l.rows xs → IsNextRowOf xs row c.next_row.new.self =
    λ xs left. subst (λ (k : ℕ). IsNextRowOf xs (record { satellite = k; observed = c.next_row.new.observed }) c.next_row.new.self) (sym c.index.ensures.value) (c.in-Some.ensures.next xs left) in
    record {
      time = l.invariant.time;
      group = group-not c.args.choice.now c.args.group c.args.read.now l.rows c.next_row.new.self l.own.rows row l.last c.in-Some-group_place.place l.invariant.group next
          (sym c.in-Some-group_place.ensures.value) (omega (arith, c.if-place-last.true));
    }

pub loop-satellite-preserved : goal.loop-satellite-preserved
loop-satellite-preserved c =
    let l = c.loop-satellite in
    let row : SatelliteRow = record { satellite = c.index.result; observed = c.next_row.new.observed } in
    let place : ℕ = c.in-Some-group_place.place in
    let next : (xs : List SatelliteRow) → AreRowsLeft l.rows xs → IsNextRowOf xs row c.next_row.new.self =
    λ xs left. subst (λ (k : ℕ). IsNextRowOf xs (record { satellite = k; observed = c.next_row.new.observed }) c.next_row.new.self) (sym c.index.ensures.value) (c.in-Some.ensures.next xs left) in
    let pushed : c.push_row.new.self.rows ≡ l.own.rows ++ record { satellite = place; observed = row.observed } ∷ [] =
    ap (λ (e : EpochTableView). e.rows) c.push_row.ensures
    ∙ ap (λ (xs : List Observed). l.own.rows ++ record { satellite = place; observed = record { items = xs } } ∷ []) c.as_slice.ensures.value in
    record {
      time = ap (λ (e : EpochTableView). e.time) c.push_row.ensures ∙ l.invariant.time;
      group = group-more c.args.choice.now c.args.group c.args.read.now l.rows c.next_row.new.self l.own.rows c.push_row.new.self.rows row l.last place l.invariant.group next
          (sym c.in-Some-group_place.ensures.value) (omega (arith, c.if-place-last.false)) c.in-Some-group_place.ensures.inside.1 pushed;
    }

pub push_row-requires-clause-good : goal.push_row-requires-clause-good
push_row-requires-clause-good c =
    let row : SatelliteRow = record { satellite = c.in-Some.satellite; observed = c.next_row.new.observed } in
    let place : ℕ = c.in-Some-group_place.place in
    subst (λ (xs : List Observed). IsSatelliteRow (record { satellite = place; observed = record { items = xs } })) (sym c.as_slice.ensures.value)
    (placed-good c.loop-satellite.rows.form row place c.in-Some.ensures.row c.in-Some-group_place.ensures.inside)
