use Rattle.std.proofs.Common.{arith}
use Rattle.rtk_obs.proofs.MsmFieldLemmas.{locks_fit}
use Rattle.rtk_obs.proofs.msm1074_cells.lock_time.Goals as goal

pub least_lock_msm-requires : goal.least_lock_msm-requires
least_lock_msm-requires c =
    let fits = locks_fit c.args.message.now c.requires.valid c.args.cell 0 (omega (arith, c.requires.valid.lengths.lock_indicator, c.requires.cell)) in
    rw c.as_slice.ensures.value (omega (arith, fits))
