use Rattle.std.proofs.Common.{arith}
use Rattle.std.proofs.lemmas.Bool.{eqb-true}
use Rattle.rtk_obs.proofs.DistinctLemmas.{early-signals}
use Rattle.rtk_obs.proofs.msm_rows.has_rising_codes.Goals as goal

pub returns : goal.returns
returns c = λ t. early-signals c.args.signal_mask (omega arith) (eqb-true _ _ t)
