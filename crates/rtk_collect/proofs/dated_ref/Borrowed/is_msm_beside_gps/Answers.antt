use Rattle.std.proofs.Common.{List, Option, ℤ, Bool, sym, subst}
use Rattle.rtk_message.specs.declared.any_message.AnyMessage.{AnyMessage}
use Rattle.rtk_collect.specs.Key.{KeysRise}
use Rattle.rtk_collect.specs.Signals.{signals, entries_by}
use Rattle.rtk_collect.specs.declared.dated_ref.Borrowed.{Borrowed}
use Rattle.rtk_collect.specs.Steps.Borrowed.{borrowed}
use Rattle.rtk_collect.proofs.MsmOrderLemmas.{msm-rises}
use Rattle.rtk_collect.proofs.dated_ref.Borrowed.is_msm_beside_gps.Goals as goal

pub returns-in-Msm : goal.returns-in-Msm
returns-in-Msm c = λ t sbas doppler channels.
    subst (λ (b : Borrowed). KeysRise signals (entries_by sbas doppler channels (borrowed b))) (sym c.in-Msm.is)
    (msm-rises sbas doppler channels c.in-Msm.message.now (c.is_beside_gps.ensures t))
