use Rattle.std.proofs.Common.{refl, arith}
use Rattle.std.proofs.lemmas.Grind.{not_there}
use mathlib.Core.Logic.{∥∥₁_map}
use Rattle.rtk_rinex.specs.declared.epoch_table.SatelliteRow.{SatelliteRow}
use Rattle.rtk_rinex.specs.MixedRecord.{mixed_satellite_line}
use Rattle.rtk_rinex.proofs.LineLemmas.{no_line}
use Rattle.rtk_rinex.proofs.MixedRowLemmas.{mixed_line-line}
use Rattle.rtk_rinex.proofs.MixedRecordsLemmas.{row-due, line-due, row-read, others-of-rows, no-rows}
use Rattle.rtk_rinex.proofs.mixed_records.MixedRows.next_row.Goals as goal

pub returns-then-self-eq0-clause-next : goal.returns-then-self-eq0-clause-next
returns-then-self-eq0-clause-next c = λ rows left. no-rows _ rows (rw (← c.self.view_is) at left) c.if-self-eq0.true

pub unreachable-requires : goal.unreachable-requires
unreachable-requires c =
    not_there c.self.invariant.1 (λ left.
    let due = row-due _ left.0 left.1 c.if-self-eq0.false in
    no_line c.self.inside.lines.now (mixed_satellite_line c.self.inside.form.doppler due.row) due.rest c.in_default.ensures (mixed_line-line c.self.inside.form.doppler due.row) due.text)

pub read_mixed_row-satellite-requires-clause-some : goal.read_mixed_row-satellite-requires-clause-some
read_mixed_row-satellite-requires-clause-some c =
    let line = c.in-Some.ensures in
    ∥∥₁_map c.self.invariant.1 (λ left.
    let due = row-due _ left.0 left.1 c.if-self-eq0.false in
    (due.row, due.is_row, (line-due c.self.inside.form.doppler c.in-Some.line.now c.in-Some.after.now c.self.inside.lines.now due.row due.rest line.0 line.1 due.text).0))

pub invariant_of-self : goal.invariant_of-self
invariant_of-self c =
    let line = c.in-Some.ensures in
    let read = c.read_mixed_row-satellite in
    let row : SatelliteRow = record { satellite = read.result; observed = read.new.observed } in (
      omega (arith, c.self.invariant.0),
      ∥∥₁_map c.self.invariant.1 (λ left.
          others-of-rows row _ left.0
          (row-read c.self.inside.form c.self.inside.time c.self.inside.text.now c.self.inside.lines.now c.in-Some.line.now c.in-Some.after.now c.self.inside.count row left.0
          c.if-self-eq0.false line.0 line.1 read.ensures.row read.ensures.text left.1)),
    )

pub returns-clause-next : goal.returns-clause-next
returns-clause-next c = λ rows left.
    let line = c.in-Some.ensures in
    let read = c.read_mixed_row-satellite in
    row-read c.self.inside.form c.self.inside.time c.self.inside.text.now c.self.inside.lines.now c.in-Some.line.now c.in-Some.after.now c.self.inside.count
    (record { satellite = read.result; observed = read.new.observed }) rows c.if-self-eq0.false line.0 line.1 read.ensures.row read.ensures.text (rw (← c.self.view_is) at left)

pub returns-clause-end : goal.returns-clause-end
returns-clause-end c = rw (← c.self.view_is) (record { form = refl; time = refl; text = refl; count = omega (arith, c.if-self-eq0.false) })
