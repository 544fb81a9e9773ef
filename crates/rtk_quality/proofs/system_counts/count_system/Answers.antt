use Rattle.std.proofs.Common.{◌≡◌, [], ◌∷◌, ℕ, List, refl, sym, subst, ◌∙◌, arith}
use Rattle.std.specs.List.{filter}
use Rattle.rtk_rinex.specs.declared.epoch_table.SatelliteRow.{SatelliteRow}
use Rattle.rtk_rinex.specs.Record.{EpochTableView}
use Rattle.rtk_tracking.specs.Epochs.{newest_first}
use Rattle.rtk_quality.specs.Records.{unit_of}
use Rattle.rtk_quality.specs.Standing.{AreRowsUpTo, RowsRise, IsCounting}
use Rattle.rtk_quality.specs.SystemParts.{is_row_of, epochs_of_system}
use Rattle.rtk_quality.proofs.SystemLemmas.{come-record, come-end, newest-of-system, system-epochs-rise, system-rows-rise}
use Rattle.rtk_quality.proofs.system_counts.count_system.Goals as goal

pub loop-record-init : goal.loop-record-init
loop-record-init c = record {
  size = c.in_ok-counts.ensures.size;
  codes = c.in_ok-counts.ensures.codes;
  counts = λ t is text. ([], t.epochs, (c.records-records.ensures.records t is text).1, refl, c.in_ok-counts.ensures.counts c.args.interval c.unit_ms-unit_ms.result);
}

pub note_epoch-requires-clause-rows : goal.note_epoch-requires-clause-rows
note_epoch-requires-clause-rows c =
    subst (λ (n : ℕ). AreRowsUpTo n c.as_slice.result.now) (sym c.loop-record.invariant.size)
    (subst (λ (xs : List SatelliteRow). AreRowsUpTo 221 xs) (sym c.as_slice.ensures.value) c.in_ok-read_rows.ensures.satellites)

pub loop-record-preserved : goal.loop-record-preserved
loop-record-preserved c = record {
  size = let was = c.loop-record.invariant.size in let is = c.in_ok-note_epoch.ensures.size in omega (arith, was, is);
  codes = let was = c.loop-record.invariant.codes in let is = c.in_ok-note_epoch.ensures.codes in omega (arith, was, is);
  counts = λ t is text.
      come-record (λ counts es. IsCounting counts 221 c.args.interval c.unit_ms-unit_ms.result c.args.codes.now (epochs_of_system c.args.system es)) c.loop-record.records c.next.new.self
      c.loop-record.counts c.note_epoch.new.self t.epochs c.in-Some.record (c.loop-record.invariant.counts t is text) c.in-Some.ensures.next
      (λ es e of good stands.
      let own : c.as_slice.result.now ≡ filter (is_row_of c.args.system) e.rows = c.as_slice.ensures.value ∙ c.in_ok-read_rows.ensures.rows e of in
      let at : c.time.result ≡ e.time = c.time.ensures ∙ of.time in
      let rise : RowsRise c.as_slice.result.now = subst (λ (xs : List SatelliteRow). RowsRise xs) (sym own) (system-rows-rise c.args.system _ e good) in
      subst (λ (n : ℕ). IsCounting c.note_epoch.new.self 221 c.args.interval c.unit_ms-unit_ms.result c.args.codes.now
      (record { time = n; rows = filter (is_row_of c.args.system) e.rows } ∷ epochs_of_system c.args.system es)) at
      (subst (λ (xs : List SatelliteRow). IsCounting c.note_epoch.new.self 221 c.args.interval c.unit_ms-unit_ms.result c.args.codes.now
      (record { time = c.time.result; rows = xs } ∷ epochs_of_system c.args.system es)) own
      (c.in_ok-note_epoch.ensures.counts 221 (epochs_of_system c.args.system es) rise stands)));
}

pub returns-clause-counts : goal.returns-clause-counts
returns-clause-counts c = λ t is text.
    c.in_ok-finish.ensures.counts 221 (epochs_of_system c.args.system t.epochs) (system-epochs-rise c.args.system t.epochs is.rise)
    (subst (λ (es : List EpochTableView). IsCounting c.loop-record.counts 221 c.args.interval (unit_of c.args.interval) c.args.codes.now es) (sym (newest-of-system c.args.system t.epochs))
    (subst (λ (unit : ℕ). IsCounting c.loop-record.counts 221 c.args.interval unit c.args.codes.now (epochs_of_system c.args.system (newest_first t.epochs))) c.unit_ms-unit_ms.ensures.value
    (come-end (λ counts es. IsCounting counts 221 c.args.interval c.unit_ms-unit_ms.result c.args.codes.now (epochs_of_system c.args.system es)) c.loop-record.records c.loop-record.counts t.epochs
    (c.loop-record.invariant.counts t is text) c.in_default.ensures.next)))
