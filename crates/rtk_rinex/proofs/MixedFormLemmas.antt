-- A line of a well-formed table of any systems has no fault.
use Rattle.std.proofs.Common.{◌≡◌, ℕ, Option, List, ◌++◌, length, sym, ◌∙◌}
use Rattle.rtk_rinex.specs.declared.check_fault.Cause.{Cause}
use Rattle.rtk_rinex.specs.declared.check_fault.Cause.TheVariants.{HeaderLine, Columns, Value, Order, Truncated, OutOfMemory}
use Rattle.rtk_rinex.specs.declared.epoch_table.SatelliteRow.{SatelliteRow}
use Rattle.rtk_obs.specs.Reading.{reading_of}
use Rattle.rtk_rinex.specs.Record.{EpochTableView, epoch_line}
use Rattle.rtk_rinex.specs.MixedRecord.{mixed_satellite_line}
use Rattle.rtk_rinex.specs.MixedForm.{FormView}
use Rattle.rtk_rinex.specs.MixedTable.{IsMixedRow, IsMixedEpoch}
use Rattle.rtk_rinex.specs.CheckLine.{IsNextTime, IsNextSatellite}
use Rattle.rtk_rinex.specs.MixedCheckLine.{IsMixedEpochFault, IsMixedSatelliteFault}
use Rattle.rtk_rinex.specs.CheckText.{BeginsWithFault}
use Rattle.rtk_rinex.proofs.LineLemmas.{no_line, same_line}
use Rattle.rtk_rinex.proofs.MixedCountLemmas.{count-few}
use Rattle.rtk_rinex.proofs.MixedOneLemmas.{count-of, epoch_line-of}
use Rattle.rtk_rinex.proofs.MixedRowLemmas.{mixed_line-line, mixed-row-form, mixed-named, one-satellite}
use Rattle.rtk_rinex.proofs.OneLemmas.{one_epoch_line}

pub no_satellite_fault : (n : FormView) (last : Option ℕ) (text : List ℕ) (cause : Cause) (r : SatelliteRow) (y : List ℕ)
    → BeginsWithFault (IsMixedSatelliteFault n last) text cause → IsMixedRow n r → IsNextSatellite last r.satellite → text ≡ mixed_satellite_line n.doppler r ++ y → ⊥
no_satellite_fault n last text HeaderLine r y b h next e = b.4
no_satellite_fault n last text Columns r y b h next e =
    let same = same_line b.0 (mixed_satellite_line n.doppler r) b.1 y b.2 (mixed_line-line n.doppler r) (sym b.3 ∙ e) in
    b.4 r.satellite (rw same.0 (mixed-row-form n r h))
no_satellite_fault n last text Value r y b h next e =
    let same = same_line b.0 (mixed_satellite_line n.doppler r) b.1 y b.2 (mixed_line-line n.doppler r) (sym b.3 ∙ e) in
    b.4.3 r h same.0
no_satellite_fault n last text Order r y b h next e =
    let same = same_line b.0 (mixed_satellite_line n.doppler r) b.1 y b.2 (mixed_line-line n.doppler r) (sym b.3 ∙ e) in
    let form = b.4.1 in
    let satellite : r.satellite ≡ b.4.0 = one-satellite b.0 r.satellite b.4.0 h.satellite form.0 (mixed-named n.doppler b.0 r same.0) form.1 in
    b.4.2 (rw satellite at next)
no_satellite_fault n last text Truncated r y b h next e = no_line text (mixed_satellite_line n.doppler r) y b (mixed_line-line n.doppler r) e
no_satellite_fault n last text OutOfMemory r y b h next e = b.4

pub no_epoch_fault : (n : FormView) (first : ℕ) (last : Option ℕ) (text : List ℕ) (cause : Cause) (a : EpochTableView) (y : List ℕ)
    → BeginsWithFault (IsMixedEpochFault n first last) text cause → IsMixedEpoch n a → IsNextTime first last a.time
    → text ≡ epoch_line (reading_of a.time) (length a.rows) ++ y → ⊥
no_epoch_fault n first last text HeaderLine a y b h next e = b.4
no_epoch_fault n first last text Columns a y b h next e =
    let same = same_line b.0 (epoch_line (reading_of a.time) (length a.rows)) b.1 y b.2 (epoch_line-of n a h) (sym b.3 ∙ e) in
    b.4 a.time (length a.rows) (h.time, count-of n a h, same.0)
no_epoch_fault n first last text Value a y b h next e = b.4
no_epoch_fault n first last text Order a y b h next e =
    let same = same_line b.0 (epoch_line (reading_of a.time) (length a.rows)) b.1 y b.2 (epoch_line-of n a h) (sym b.3 ∙ e) in
    let t : ℕ = b.4.0 in
    let is = b.4.2 in
    let one = one_epoch_line a.time t (length a.rows) b.4.1 h.time is.0 (count-few n (length a.rows) (count-of n a h)) (count-few n b.4.1 is.1) (sym same.0 ∙ is.2) in
    b.4.3 (rw one.0 at next)
no_epoch_fault n first last text Truncated a y b h next e = no_line text (epoch_line (reading_of a.time) (length a.rows)) y b (epoch_line-of n a h) e
no_epoch_fault n first last text OutOfMemory a y b h next e = b.4
