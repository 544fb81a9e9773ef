use Rattle.std.proofs.Common.{◌≡◌, ◌∙◌, arith, sym, subst}
use Rattle.rtk_rinex.specs.Record.{epoch_line}
use Rattle.rtk_rinex.proofs.ReadingLemmas.{FitsColumns, FitsColumns-reading_of}
use Rattle.rtk_rinex.proofs.ValuesLemmas.{clash}
use Rattle.rtk_rinex.proofs.EpochLemmas.{length-line, line-columns}
use Rattle.rtk_rinex.proofs.epoch_line_check.read_epoch_line.Goals as goal

pub returns-then-line-ne-EPOCH_LINE : goal.returns-then-line-ne-EPOCH_LINE
returns-then-line-ne-EPOCH_LINE c = λ t n h k e. c.if-line-ne-EPOCH_LINE.true (length-line c.args.line.now t n h (omega (arith, k, c.requires)) e)

pub returns-in_err-stamp : goal.returns-in_err-stamp
returns-in_err-stamp c =
    rw c.from_residual.ensures (λ t n h k e. c.in_err-stamp.ensures t n h k (c.split_at.ensures.front ∙ line-columns c.args.line.now t n h (omega (arith, k, c.requires)) e))

pub epoch_line-requires-clause-year : goal.epoch_line-requires-clause-year
epoch_line-requires-clause-year c =
    let stamp = c.in_ok-stamp.ensures in
    let fits = subst FitsColumns (sym stamp.2) (FitsColumns-reading_of c.in_ok-stamp.stamp.time stamp.0) in fits.year

pub epoch_line-requires-clause-date : goal.epoch_line-requires-clause-date
epoch_line-requires-clause-date c =
    let stamp = c.in_ok-stamp.ensures in
    let fits = subst FitsColumns (sym stamp.2) (FitsColumns-reading_of c.in_ok-stamp.stamp.time stamp.0) in (fits.month, fits.day)

pub returns-else-is_same : goal.returns-else-is_same
returns-else-is_same c = λ t n h k e.
    let stamp = c.in_ok-stamp.stamp in
    let same = c.in_ok-stamp.ensures.3 t n h k (c.split_at.ensures.front ∙ line-columns c.args.line.now t n h (omega (arith, k, c.requires)) e) in
    let line : epoch_line stamp.reading stamp.count ≡ c.args.line.now = rw (c.in_ok-stamp.ensures.2, same.0, same.1) (sym e) in
    clash c.is_same.result c.if-is_same.false (c.is_same.ensures.1 (c.epoch_line.ensures ∙ line))
