use Rattle.std.proofs.Common.{◌∙◌, sym}
use Rattle.rtk_rinex.proofs.MixedRowLemmas.{mixed-named, one-satellite}
use Rattle.rtk_rinex.proofs.ValuesLemmas.{clash}
use Rattle.rtk_rinex.proofs.mixed_records_check.check_satellite_line.Goals as goal

pub is_mixed_row_line-requires-clause-form : goal.is_mixed_row_line-requires-clause-form
is_mixed_row_line-requires-clause-form c = c.in-Some.ensures

pub returns-clause-row : goal.returns-clause-row
returns-clause-row c =
    let line = c.args.line.now in
    let row = c.is_mixed_row_line.ensures.0 c.if-not-is_mixed_row_line.false in
    let form = c.in-Some.ensures in
    (row.0, row.1, row.2, one-satellite line row.0.satellite c.in-Some.satellite row.1.satellite form.0 (mixed-named c.args.form.now.doppler line row.0 row.2) form.1 ∙ sym c.index-2.ensures.value)

pub returns-then-not-is_mixed_row_line-clause-fault : goal.returns-then-not-is_mixed_row_line-clause-fault
returns-then-not-is_mixed_row_line-clause-fault c = (
  c.in-Some.satellite,
  c.in-Some.ensures,
  rw c.index.ensures.value at (c.is_next_satellite.ensures.0 c.if-not-is_next_satellite.false),
  λ r is e. clash c.is_mixed_row_line.result c.if-not-is_mixed_row_line.true (c.is_mixed_row_line.ensures.1 (r, is, e)),
)
