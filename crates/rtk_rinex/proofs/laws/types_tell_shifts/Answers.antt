use Rattle.rtk_rinex.proofs.GpsShiftLemmas.{gps-tells}
use Rattle.rtk_rinex.proofs.ShiftTypeLemmas.{types-tell}
use Rattle.rtk_rinex.proofs.laws.types_tell_shifts.Goals as goal

pub returns-clause-mixed : goal.returns-clause-mixed
returns-clause-mixed c = types-tell c.any_code_laws.ensures.places

pub returns-clause-gps : goal.returns-clause-gps
returns-clause-gps c = gps-tells
