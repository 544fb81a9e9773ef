use Rattle.std.proofs.Common.{◌≤◌, ◌*◌, rules}
use Rattle.rtk_message.proofs.Msm1074Lemmas.{each_fits, is_valid, few_of}
use Rattle.rtk_message.specs.Msm1074.{satellite_count, signal_count}
use Rattle.rtk_message.proofs.msm1074.Msm1074Layout.fits.Goals as goal

pub returns-then-has_lengths : goal.returns-then-has_lengths
returns-then-has_lengths c =
    let m = c.args.self.now in
    let header = c.fits.ensures.0 (search rules) in
    let some : c.satellite_count.result * c.signal_count.result ≤ 64 = few_of c.has_too_many_cells.ensures c.if-has_too_many_cells.false in
    let few : satellite_count m.header * signal_count m.header ≤ 64 = rw (← c.satellite_count.ensures.value, ← c.signal_count.ensures.value) some in (
      λ h. is_valid m header c.if-self-ge-WEEK_MS.false few (c.has_lengths.ensures.0 (search rules)) (c.columns_fit.ensures.0 h),
      λ v. c.columns_fit.ensures.1 (each_fits m v.fields_fit),
    )
