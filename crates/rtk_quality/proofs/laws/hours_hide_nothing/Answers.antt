use Rattle.rtk_quality.proofs.HourLawLemmas.{each-has-one-line, hours-have-all}
use Rattle.rtk_quality.proofs.MissingLemmas.{hours-have-missing}
use Rattle.rtk_quality.proofs.laws.hours_hide_nothing.Goals as goal

pub returns : goal.returns
returns c = record { lines = each-has-one-line; records = hours-have-all; missing = hours-have-missing }
