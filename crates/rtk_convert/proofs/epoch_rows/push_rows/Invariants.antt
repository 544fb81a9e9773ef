use Rattle.std.proofs.Common.{◌≡◌, ◌≤◌, ◌+◌, ◌-◌, length, map}
use Rattle.rtk_convert.specs.Steps.ShownCells.{AreColumns}
use Rattle.rtk_convert.proofs.SatelliteLemmas.{ShowsBelow}
use Rattle.rtk_convert.proofs.epoch_rows.push_rows.Given as goal

-- the satellites below one are written: which one no variable says
abbrev pub invariant-satellites : goal.invariant-satellites
invariant-satellites g l = record {
  shows : ShowsBelow (λ lines rows. g.E.Lines.RowLines.HasRows lines l.doppler rows) (g.E.FileEntry.places l.fn.phases) l.fn.set.epoch (map g.E.FileEntry.signal_of l.msm) l.at.msm (map g.E.FileEntry.signal_of l.legacy) l.at.legacy l.listed
      l.form.last l.form.codes.now (g.E.FileEntry.places l.phases) l.lines;
  epoch : l.form.epoch ≡ l.fn.set.epoch;
  within : l.form.last ≤ 221;
  least : 32 ≤ l.form.last;
  doppler : l.form.doppler ≡ l.doppler;
  columns : AreColumns l.form.doppler l.form.plain l.form.codes.now l.form.columns;
}

abbrev pub decreases-satellites : goal.decreases-satellites
decreases-satellites g l = (length l.msm - l.at.msm) + (length l.legacy - l.at.legacy)
