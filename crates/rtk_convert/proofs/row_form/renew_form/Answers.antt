use Rattle.std.proofs.Common.{arith}
use Rattle.rtk_convert.proofs.row_form.renew_form.Goals as goal

pub returns-then-has_gps_alone-clause-codes : goal.returns-then-has_gps_alone-clause-codes
returns-then-has_gps_alone-clause-codes g c =
    let most = c.has_gps_alone.ensures c.if-has_gps_alone.true in
    c.requires.codes (omega (arith, most, c.requires.within, c.requires.least))

pub returns-then-has_gps_alone-clause-last : goal.returns-then-has_gps_alone-clause-last
returns-then-has_gps_alone-clause-last g c =
    let most = c.has_gps_alone.ensures c.if-has_gps_alone.true in
    (omega (arith, most, c.requires.within, c.requires.least), c.requires.last)
