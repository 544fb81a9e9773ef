use mathlib.Core.Logic.{∥∥₁_map}
use Rattle.rtk_rinex.specs.MixedRecord.{mixed_satellite_line}
use Rattle.rtk_rinex.proofs.MixedRowLemmas.{mixed_line-row}
use Rattle.rtk_rinex.proofs.MixedRecordsLemmas.{record-parts}
use Rattle.rtk_rinex.proofs.mixed_records.first_record.Goals as goal

pub read_stamp-stamp-requires : goal.read_stamp-stamp-requires
read_stamp-stamp-requires c = ∥∥₁_map c.requires (λ has. has.0)

pub of_lines-requires : goal.of_lines-requires
of_lines-requires c = (
  c.read_stamp-stamp.ensures.few,
  ∥∥₁_map c.requires (λ has.
      let e = has.0.0 in
      let rest = has.0.1 in
      let stamp = c.read_stamp-stamp.ensures.stamp e rest has.0.2 has.0.3 in
      let same = c.skip_rows-skipped.ensures.rest (mixed_satellite_line c.args.form.now.doppler) e.rows rest (mixed_line-row c.args.form.now.doppler) has.1 stamp.2 in
      let is = record-parts c.args.form.now e c.args.text.now c.split_before.result.0.now c.read_stamp-stamp.result.1.now c.split_before-2.result.0.now c.skip_rows-skipped.result.now
      c.split_before.result.1.now c.split_before-2.result.1.now rest c.read_stamp-stamp.result.0.time c.read_stamp-stamp.result.0.count has.0.2 has.0.3 stamp same
      c.split_before.ensures.parts c.split_before-2.ensures.parts in
      (e.rows, is.0.rows)),
)

pub returns-clause-parts : goal.returns-clause-parts
returns-clause-parts c = λ e rest is ends text.
    let stamp = c.read_stamp-stamp.ensures.stamp e rest is text in
    let same = c.skip_rows-skipped.ensures.rest (mixed_satellite_line c.args.form.now.doppler) e.rows rest (mixed_line-row c.args.form.now.doppler) ends stamp.2 in
    rw c.of_lines.ensures
    (record-parts c.args.form.now e c.args.text.now c.split_before.result.0.now c.read_stamp-stamp.result.1.now c.split_before-2.result.0.now c.skip_rows-skipped.result.now
    c.split_before.result.1.now c.split_before-2.result.1.now rest c.read_stamp-stamp.result.0.time c.read_stamp-stamp.result.0.count is text stamp same
    c.split_before.ensures.parts c.split_before-2.ensures.parts)
