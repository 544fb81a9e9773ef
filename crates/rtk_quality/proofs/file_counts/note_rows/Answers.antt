use Rattle.std.specs.Int.{IsInRange}
use Rattle.std.proofs.Common.{◌≡◌, refl, ◌<◌, ◌≤◌, ◌+◌, ◌-◌, ◌∷◌, ◌++◌, ◌∙◌, ℕ, List, length, get_or, sym, ap, subst, length-set, arith, Option}
use Rattle.std.proofs.lemmas.List.{append-nil, take_all, at_drop_all}
use Rattle.rtk_obs.proofs.PublicLaws.{reading_is}
use Rattle.rtk_obs.specs.Reading.{reading_of}
use Rattle.rtk_rinex.specs.Record.{EpochTableView}
use Rattle.rtk_rinex.specs.declared.epoch_table.SatelliteRow.{SatelliteRow}
use Rattle.rtk_tracking.specs.Epochs.{newest_moment}
use Rattle.rtk_tracking.specs.Passes.{sightings_of}
use Rattle.rtk_quality.specs.Largest.{AreLargest}
use Rattle.rtk_quality.specs.Moments.{together_in}
use Rattle.rtk_quality.specs.Outages.{absence_at, outage_of, outages_in, size_of_outage}
use Rattle.rtk_quality.specs.declared.outages.Outage.{Outage}
use Rattle.rtk_quality.specs.declared.outages.Absence.{Absence}
use Rattle.rtk_quality.specs.Runs.{ended_run, half_run, runs_in, size_of_run}
use Rattle.rtk_quality.specs.Bursts.{hour_before, burst_of, bursts_in, size_of_burst}
use Rattle.rtk_quality.specs.declared.runs.HalfRun.{HalfRun}
use Rattle.rtk_quality.specs.declared.bursts.Burst.{Burst}
use Rattle.rtk_quality.specs.declared.runs.Run.{Run}
use Rattle.rtk_quality.specs.declared.bursts.HourMoments.{HourMoments}
use Rattle.rtk_quality.specs.Steps.Noted.{locks_onto}
use Rattle.rtk_quality.specs.declared.hours.Locks.{Locks}
use Rattle.rtk_quality.specs.Standing.{RowsRise, with_ended, absent_at, without_rows, StandsForSatellite, StandForSatellites, StandForCodes, StandForMissing, StandForEnded}
use Rattle.rtk_quality.specs.declared.satellite_counts.SatelliteCounts.{SatelliteCounts}
use Rattle.rtk_quality.specs.declared.missing.MissingCodes.{MissingCodes}
use Rattle.rtk_quality.proofs.MissingCodeLemmas.{no-row-yet, codes-due, codes-noted}
use Rattle.rtk_quality.proofs.RowLemmas.{all-rows, IsRowAt, record-is, row-due, row-noted, row-ended, locks-more, told-more, together-more}
use Rattle.rtk_quality.proofs.file_counts.note_rows.Goals as goal

pub loop-row-init : goal.loop-row-init
loop-row-init c = record {
  size = refl;
  codes_size = refl;
  codes = λ most es count rise last stand are. no-row-yet c.args.codes.now.items count most c.args.interval c.args.time es are;
  satellites = λ most es rise last stand. stand;
  ended = λ most es rise last stand ended. ended;
  locks = λ most es rise last stand. ap (λ (x : Locks). locks_onto c.args.interval es c.args.time x c.args.rows.now) (sym c.none-locks.ensures);
  outages = λ most es all rise last stand are. subst (λ (xs : List Outage). AreLargest size_of_outage c.args.events.now.outages xs) (sym (append-nil all)) are;
  runs = λ most es all rise last stand are. subst (λ (xs : List HalfRun). AreLargest size_of_run c.args.events.now.runs xs) (sym (append-nil all)) are;
  bursts = λ most es all rise last stand are. subst (λ (xs : List Burst). AreLargest size_of_burst c.args.events.now.bursts xs) (sym (append-nil all)) are;
  together = λ most es rise last stand. c.none-together.ensures;
}

pub satellite_of-satellite-requires : goal.satellite_of-satellite-requires
satellite_of-satellite-requires c =
    let r : SatelliteRow = c.row-item.result in
    let inside = subst (λ (x : SatelliteRow). IsInRange 1 (length c.args.satellites.now.items) x.satellite) (sym c.row-item.is) (c.requires.rows c.loop-row.row-index r c.loop-row-test.true) in
    let few = c.requires.satellites in
    (omega (arith, inside), omega (arith, inside, few))

pub note_row-notes-requires : goal.note_row-notes-requires
note_row-notes-requires c = reading_is c.args.time c.civil-reading.result c.civil-reading.ensures.reading

pub loop-row-preserved : goal.loop-row-preserved
loop-row-preserved c =
    let e : EpochTableView = record { time = c.args.time; rows = c.args.rows.now } in
    let interval : Option ℕ = c.args.interval in
    let i : ℕ = c.loop-row.row-index in
    let r : SatelliteRow = c.row-item.result in
    let place : ℕ = c.from-place.result - 1 in
    let satellite : ℕ = c.satellite_of-satellite.result in
    let own : satellite ≡ r.satellite = c.satellite_of-satellite.ensures in
    let items : List SatelliteCounts = c.loop-row.satellites.items in
    let new : SatelliteCounts = c.note_row-notes.new.self in
    let at : RowsRise e.rows → IsRowAt e i r = λ rise. record { rise = rise; within = c.loop-row-test.true; is = c.row-item.is } in
    let inside : IsInRange 1 (length c.args.satellites.now.items) r.satellite =
    subst (λ (x : SatelliteRow). IsInRange 1 (length c.args.satellites.now.items) x.satellite) (sym c.row-item.is) (c.requires.rows i r c.loop-row-test.true) in
    let number : place + 1 ≡ r.satellite = omega (arith, inside, c.from-place.ensures) in
    let few : (most : ℕ) → length c.args.satellites.now.items ≡ most → place < most = λ most size. omega (arith, inside, number, size) in
    let stands = rw c.as_slice-observed.ensures.value at c.note_row-notes.ensures.stands in
    let ends = rw c.as_slice-observed.ensures.value at c.note_row-notes.ensures.ended in
    let tells = rw c.as_slice-observed.ensures.value at c.note_row-notes.ensures.locks in
    let absent = rw c.as_slice-observed.ensures.value at c.note_row-notes.ensures.absence in
    let runs = rw c.as_slice-observed.ensures.value at c.note_row-notes.ensures.run in
    let hours = rw c.as_slice-observed.ensures.value at c.note_row-notes.ensures.hour in
    let tracked = rw c.as_slice-observed.ensures.value at c.note_row-notes.ensures.tracked in
    let starts = rw c.as_slice-observed.ensures.value at c.note_row-notes.ensures.begins in
    let reads : c.civil-reading.result ≡ reading_of e.time = reading_is c.args.time c.civil-reading.result c.civil-reading.ensures.reading in
    let was : (most : ℕ) (es : List EpochTableView) → RowsRise e.rows → c.args.record_ms ≡ newest_moment es → StandForSatellites c.args.satellites.now.items most interval (without_rows e.time ∷ es)
    → StandsForSatellite (get_or items place _) interval (absent_at e.time ∷ sightings_of r.satellite es) =
    λ most es rise last stand. row-due e i place most r items _ interval es (at rise) number (few most stand.size) (c.loop-row.invariant.satellites most es rise last stand) in
    let due : (most : ℕ) (es : List EpochTableView) → RowsRise e.rows → c.args.record_ms ≡ newest_moment es → StandForSatellites c.args.satellites.now.items most interval (without_rows e.time ∷ es)
    → StandsForSatellite c.index_mut.result.now interval (absent_at e.time ∷ sightings_of r.satellite es) =
    λ most es rise last stand. subst (λ (s : SatelliteCounts). StandsForSatellite s interval (absent_at e.time ∷ sightings_of r.satellite es)) (sym c.index_mut.ensures.value) (was most es rise last stand) in
    record {
      size = length-set items place new ∙ c.loop-row.invariant.size;
      codes_size = length-set c.loop-row.codes.items place c.note_codes.new.self ∙ c.loop-row.invariant.codes_size;
      codes = λ most es count rise last stand are.
          let so_far = c.loop-row.invariant.codes most es count rise last stand are in
          codes-noted e i place most r c.loop-row.codes.items c.note_codes.new.self count interval es (at rise) number (few most stand.size) so_far
          (c.in_ok-note_codes.ensures count (sightings_of r.satellite es) (record { time = e.time; observed = r.observed.items }) (sym c.as_slice-observed.ensures.value) reads
          (starts (sightings_of r.satellite es) (due most es rise last stand))
          (subst (λ (m : MissingCodes). StandForCodes m.codes.items count interval (sightings_of r.satellite es)) (sym c.index_mut-in-loop-row.ensures.value)
          (codes-due e i place most r c.loop-row.codes.items _ count interval es (at rise) number (few most stand.size) so_far)));
      satellites = λ most es rise last stand.
          row-noted e i place most r items new interval es (at rise) number (few most stand.size) (c.loop-row.invariant.satellites most es rise last stand)
          (stands (sightings_of r.satellite es) (due most es rise last stand) (last ∙ record-is r.satellite es));
      ended = λ most es rise last stand ended.
          row-ended e i most r c.loop-row.ended.items c.add_ended.new.ended.items c.note_row-notes.result.ended interval es (at rise) (c.loop-row.invariant.ended most es rise last stand ended)
          (c.in_ok-add_ended.ensures ∙ ap (λ (k : ℕ). with_ended c.loop-row.ended.items k c.note_row-notes.result.ended) own)
          (ends (sightings_of r.satellite es) (due most es rise last stand) (last ∙ record-is r.satellite es));
      locks = λ most es rise last stand.
          c.loop-row.invariant.locks most es rise last stand
          ∙ locks-more e i r interval es c.loop-row.locks c.note_row-notes.result.locks c.plus-locks.result (at rise)
          (tells (sightings_of r.satellite es) (due most es rise last stand) (last ∙ record-is r.satellite es))
          c.plus-locks.ensures;
      outages = λ most es all rise last stand are.
          told-more size_of_outage (λ (y : SatelliteRow). outage_of y.satellite (absence_at interval (sightings_of y.satellite es) (record { time = e.time; observed = y.observed.items }))) e i r _
          c.loop-row.events.outages c.note_row.new.self.outages all (at rise)
          (ap (λ (k : ℕ). outage_of k c.note_row-notes.result.absence) own
          ∙ ap (λ (x : Option Absence). outage_of r.satellite x) (absent (sightings_of r.satellite es) (due most es rise last stand) (last ∙ record-is r.satellite es)))
          (c.loop-row.invariant.outages most es all rise last stand are) c.in_ok-note_row.ensures.outages;
      runs = λ most es all rise last stand are.
          told-more size_of_run (λ (y : SatelliteRow). half_run y.satellite (ended_run interval (sightings_of y.satellite es) (record { time = e.time; observed = y.observed.items }))) e i r _
          c.loop-row.events.runs c.note_row.new.self.runs all (at rise)
          (ap (λ (k : ℕ). half_run k c.note_row-notes.result.run) own
          ∙ ap (λ (x : Option Run). half_run r.satellite x) (runs (sightings_of r.satellite es) (due most es rise last stand) (last ∙ record-is r.satellite es)))
          (c.loop-row.invariant.runs most es all rise last stand are) c.in_ok-note_row.ensures.runs;
      bursts = λ most es all rise last stand are.
          told-more size_of_burst (λ (y : SatelliteRow). burst_of y.satellite (hour_before interval (sightings_of y.satellite es) (record { time = e.time; observed = y.observed.items }))) e i r _
          c.loop-row.events.bursts c.note_row.new.self.bursts all (at rise)
          (ap (λ (k : ℕ). burst_of k c.note_row-notes.result.hour) own
          ∙ ap (λ (x : Option HourMoments). burst_of r.satellite x) (hours (sightings_of r.satellite es) (due most es rise last stand) (last ∙ record-is r.satellite es)))
          (c.loop-row.invariant.bursts most es all rise last stand are) c.in_ok-note_row.ensures.bursts;
      together = λ most es rise last stand.
          together-more e i r interval es c.note_row-notes.result.locks.slips c.note_row-notes.result.is_tracked c.loop-row.together c.plus-together.result (at rise)
          (ap (λ (l : Locks). l.slips) (tells (sightings_of r.satellite es) (due most es rise last stand) (last ∙ record-is r.satellite es)))
          tracked (c.loop-row.invariant.together most es rise last stand) c.plus-together.ensures;
    }

pub returns-clause-satellites : goal.returns-clause-satellites
returns-clause-satellites c = λ most es rise last stand.
    let e : EpochTableView = record { time = c.args.time; rows = c.args.rows.now } in
    let long : length e.rows ≤ c.loop-row.row-index = omega (arith, c.loop-row-test.false) in
    subst (λ (x : EpochTableView). StandForSatellites c.loop-row.satellites.items most c.args.interval (x ∷ es)) (all-rows e c.loop-row.row-index (take_all c.loop-row.row-index e.rows long))
    (c.loop-row.invariant.satellites most es rise last stand)

pub returns-clause-codes : goal.returns-clause-codes
returns-clause-codes c = λ most es count rise last stand are.
    let e : EpochTableView = record { time = c.args.time; rows = c.args.rows.now } in
    let long : length e.rows ≤ c.loop-row.row-index = omega (arith, c.loop-row-test.false) in
    subst (λ (x : EpochTableView). StandForMissing c.loop-row.codes.items count most c.args.interval (x ∷ es)) (all-rows e c.loop-row.row-index (take_all c.loop-row.row-index e.rows long))
    (c.loop-row.invariant.codes most es count rise last stand are)

pub returns-clause-ended : goal.returns-clause-ended
returns-clause-ended c = λ most es rise last stand ended.
    let e : EpochTableView = record { time = c.args.time; rows = c.args.rows.now } in
    let long : length e.rows ≤ c.loop-row.row-index = omega (arith, c.loop-row-test.false) in
    subst (λ (x : EpochTableView). StandForEnded c.loop-row.ended.items most c.args.interval (x ∷ es)) (all-rows e c.loop-row.row-index (take_all c.loop-row.row-index e.rows long))
    (c.loop-row.invariant.ended most es rise last stand ended)

pub returns-clause-locks : goal.returns-clause-locks
returns-clause-locks c = λ most es rise last stand.
    let e : EpochTableView = record { time = c.args.time; rows = c.args.rows.now } in
    let long : length e.rows ≤ c.loop-row.row-index = omega (arith, c.loop-row-test.false) in
    sym (c.loop-row.invariant.locks most es rise last stand
    ∙ at_drop_all (λ (rows : List SatelliteRow). locks_onto c.args.interval es e.time c.loop-row.locks rows) e.rows c.loop-row.row-index long)

pub returns-clause-outages : goal.returns-clause-outages
returns-clause-outages c = λ most es all rise last stand are.
    let e : EpochTableView = record { time = c.args.time; rows = c.args.rows.now } in
    let long : length e.rows ≤ c.loop-row.row-index = omega (arith, c.loop-row-test.false) in
    subst (λ (rows : List SatelliteRow). AreLargest size_of_outage c.loop-row.events.outages (all ++ outages_in c.args.interval es e.time rows))
    (take_all c.loop-row.row-index e.rows long) (c.loop-row.invariant.outages most es all rise last stand are)

pub returns-clause-runs : goal.returns-clause-runs
returns-clause-runs c = λ most es all rise last stand are.
    let e : EpochTableView = record { time = c.args.time; rows = c.args.rows.now } in
    let long : length e.rows ≤ c.loop-row.row-index = omega (arith, c.loop-row-test.false) in
    subst (λ (rows : List SatelliteRow). AreLargest size_of_run c.loop-row.events.runs (all ++ runs_in c.args.interval es e.time rows))
    (take_all c.loop-row.row-index e.rows long) (c.loop-row.invariant.runs most es all rise last stand are)

pub returns-clause-bursts : goal.returns-clause-bursts
returns-clause-bursts c = λ most es all rise last stand are.
    let e : EpochTableView = record { time = c.args.time; rows = c.args.rows.now } in
    let long : length e.rows ≤ c.loop-row.row-index = omega (arith, c.loop-row-test.false) in
    subst (λ (rows : List SatelliteRow). AreLargest size_of_burst c.loop-row.events.bursts (all ++ bursts_in c.args.interval es e.time rows))
    (take_all c.loop-row.row-index e.rows long) (c.loop-row.invariant.bursts most es all rise last stand are)

pub returns-clause-together : goal.returns-clause-together
returns-clause-together c = λ most es rise last stand.
    let e : EpochTableView = record { time = c.args.time; rows = c.args.rows.now } in
    let long : length e.rows ≤ c.loop-row.row-index = omega (arith, c.loop-row-test.false) in
    c.loop-row.invariant.together most es rise last stand
    ∙ ap (λ (rows : List SatelliteRow). together_in c.args.interval es e.time rows) (take_all c.loop-row.row-index e.rows long)
