use Rattle.std.proofs.Common.{◌/◌, ◌%◌, sym, refl}
use Rattle.rtk_rinex.proofs.ColumnsLemmas.{right-long}
use Rattle.rtk_rinex.proofs.columns.put_magnitude_14_3.Goals as goal

pub returns : goal.returns
returns c =
    let n = c.args.magnitude in
    rw (c.put_three_of_four.ensures, c.put_point_and_three-3.ensures, c.put_point_and_three-2.ensures, c.put_point_and_three.ensures, c.requires.blank)
    (sym (right-long n (n / 1_000_000) (n % 1_000_000) refl refl c.requires.long c.requires.fits))
