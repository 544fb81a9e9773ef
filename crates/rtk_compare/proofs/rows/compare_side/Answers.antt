use Rattle.std.proofs.Common.{ℕ, sym, subst, ◌∙◌}
use Rattle.rtk_rinex.specs.declared.epoch_table.SatelliteRow.{SatelliteRow}
use Rattle.rtk_compare.specs.Pairs.{Pair}
use Rattle.rtk_compare.specs.Differences.{Adds}
use Rattle.rtk_compare.specs.Steps.Rows.{lines_told, next_rows}
use Rattle.rtk_compare.specs.Steps.Tracks.{AreTracksAt}
use Rattle.rtk_compare.proofs.RowsLemmas.{rows-same, notes-as, no-satellite}
use Rattle.rtk_compare.proofs.rows.compare_side.Goals as goal

pub unreachable-requires : goal.unreachable-requires
unreachable-requires c = no-satellite c.args.old.now.satellite c.args.new.now.satellite c.args.side c.requires.side (sym c.in_default.is ∙ c.next_satellite.ensures)

pub returns-clause-lines : goal.returns-clause-lines
returns-clause-lines c = λ codes earlier shared tracks.
    let old = c.args.old.now in
    let new = c.args.new.now in
    let s : ℕ = c.in-Some.satellite in
    let same = rows-same c.args.side old new s c.observed_if-old_observed.result.now c.observed_if-new_observed.result.now c.has_old.result c.has_new.result (sym c.in-Some.is ∙ c.next_satellite.ensures) c.observed_if-old_observed.ensures c.has_old.ensures
    c.observed_if-new_observed.ensures c.has_new.ensures in
    subst (λ (p : Pair SatelliteRow). Adds c.args.findings.now c.compare_row.new.findings (lines_told c.args.time.now codes earlier p)) same
    (c.compare_row.ensures.lines codes earlier (c.of_satellite-codes.ensures.value ∙ shared.same s)
    (subst (λ (p : Pair SatelliteRow). AreTracksAt c.args.tracks.now codes earlier p.old.satellite) (sym same) tracks))

pub returns-clause-tracks : goal.returns-clause-tracks
returns-clause-tracks c = λ codes shared.
    let old = c.args.old.now in
    let new = c.args.new.now in
    let s : ℕ = c.in-Some.satellite in
    let same = rows-same c.args.side old new s c.observed_if-old_observed.result.now c.observed_if-new_observed.result.now c.has_old.result c.has_new.result (sym c.in-Some.is ∙ c.next_satellite.ensures) c.observed_if-old_observed.ensures c.has_old.ensures
    c.observed_if-new_observed.ensures c.has_new.ensures in
    notes-as c.args.tracks.now c.compare_row.new.tracks codes c.of_satellite-codes.result.now _ (next_rows c.args.side old new) c.compare_row.ensures.tracks (c.of_satellite-codes.ensures.value ∙ shared.same s) same
