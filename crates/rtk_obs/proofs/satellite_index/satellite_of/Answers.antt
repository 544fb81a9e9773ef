use Rattle.rtk_obs.proofs.SatelliteLemmas.{no_digits, by_bit}
use Rattle.rtk_obs.proofs.satellite_index.satellite_of.Goals as goal

pub returns-in_err-number : goal.returns-in_err-number
returns-in_err-number c =
    no_digits c.args.letter c.args.tens c.args.ones c.number_of_digits.result c.from_residual-in_err-number.result c.number_of_digits.ensures c.in_err-number.was c.from_residual-in_err-number.ensures

pub returns : goal.returns
returns c =
    by_bit c.args.letter c.args.tens c.args.ones c.in_ok-system.system c.in_ok-number.number c.system_of_letter.result c.number_of_digits.result
    c.system_of_letter.ensures c.in_ok-system.was c.number_of_digits.ensures c.in_ok-number.was c.name_offset-offset.result c.satellite_in.result c.name_offset-offset.ensures.value c.if-number-offset.false c.satellite_in.ensures
