use Rattle.std.proofs.Common.{sym, subst}
use Rattle.rtk_collect.specs.Key.{KeysRise}
use Rattle.rtk_collect.specs.Signals.{signals}
use Rattle.rtk_collect.proofs.signals.cells_rise.Goals as goal

pub returns-then-is_msm_beside_gps : goal.returns-then-is_msm_beside_gps
returns-then-is_msm_beside_gps c = λ t.
    let own = c.requires.own in
    subst (KeysRise signals) (sym own.3) (c.is_msm_beside_gps.ensures c.if-is_msm_beside_gps.true own.0 own.1 own.2)
