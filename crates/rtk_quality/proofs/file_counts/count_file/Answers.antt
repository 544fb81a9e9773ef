use Rattle.std.proofs.Common.{[], ◌∷◌, ℕ, List, arith, refl, sym, subst}
use Rattle.rtk_rinex.specs.declared.epoch_table.SatelliteRow.{SatelliteRow}
use Rattle.rtk_tracking.specs.Epochs.{newest_first}
use Rattle.rtk_tracking.proofs.PublicLaws.{come-more, come-all}
use Rattle.rtk_quality.specs.Standing.{RowsRise, IsCounting}
use Rattle.rtk_quality.proofs.file_counts.count_file.Goals as goal

pub loop-record-init : goal.loop-record-init
loop-record-init c = record {
  size = c.in_ok-counts.ensures.size;
  counts = λ t is text. ([], t.epochs, (c.records-records.ensures.records t is text).1, refl, c.in_ok-counts.ensures.counts c.args.interval c.unit_ms-unit_ms.result);
  codes = c.in_ok-counts.ensures.codes;
}

pub loop-record-preserved : goal.loop-record-preserved
loop-record-preserved c = record {
  size = let was = c.loop-record.invariant.size in let is = c.in_ok-note_epoch.ensures.size in omega (arith, was, is);
  codes = let was = c.loop-record.invariant.codes in let is = c.in_ok-note_epoch.ensures.codes in omega (arith, was, is);
  counts = λ t is text.
      come-more (λ counts es. IsCounting counts 32 c.args.interval c.unit_ms-unit_ms.result c.args.codes.now es) c.loop-record.records c.next.new.self c.loop-record.counts c.note_epoch.new.self t.epochs c.in-Some._record.now c.next.new.epoch
      (c.loop-record.invariant.counts t is text) c.in-Some.ensures.next
      (λ es was.
      subst (λ (n : ℕ). IsCounting c.note_epoch.new.self 32 c.args.interval c.unit_ms-unit_ms.result c.args.codes.now (record { time = n; rows = c.next.new.epoch.rows } ∷ es)) c.time.ensures
      (subst (λ (xs : List SatelliteRow). IsCounting c.note_epoch.new.self 32 c.args.interval c.unit_ms-unit_ms.result c.args.codes.now (record { time = c.time.result; rows = xs } ∷ es))
      c.rows-rows.ensures.value (c.in_ok-note_epoch.ensures.counts 32 es (subst (λ (xs : List SatelliteRow). RowsRise xs) (sym c.rows-rows.ensures.value) c.rows-rows.ensures.good.rise) was)));
}

pub returns-clause-counts : goal.returns-clause-counts
returns-clause-counts c = λ t is text.
    c.in_ok-finish.ensures.counts 32 t.epochs is.rise
    (subst (λ (unit : ℕ). IsCounting c.loop-record.counts 32 c.args.interval unit c.args.codes.now (newest_first t.epochs)) c.unit_ms-unit_ms.ensures.value
    (come-all (λ counts es. IsCounting counts 32 c.args.interval c.unit_ms-unit_ms.result c.args.codes.now es) c.loop-record.records c.loop-record.counts t.epochs
    (c.loop-record.invariant.counts t is text) c.in_default.ensures.next))
