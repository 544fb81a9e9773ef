use Rattle.std.proofs.Common.{sym, ◌∙◌, arith}
use Rattle.rtk_obs.proofs.MsmFieldLemmas.{lock_at, cnr_at}
use Rattle.rtk_obs.proofs.msm_cells.set_values.Goals as goal

pub overflow_cast-cnr : goal.overflow_cast-cnr
overflow_cast-cnr c =
    let below = cnr_at c.args.message.now c.requires.valid (sym c.has_extended_resolution.ensures ∙ c.if-has_extended_resolution.false) c.args.place in
    rw c.as_slice-cnr.ensures.value (omega (arith, below))

pub overflow_cast-lock : goal.overflow_cast-lock
overflow_cast-lock c =
    let below = lock_at c.args.message.now c.requires.valid (sym c.has_extended_resolution.ensures ∙ c.if-has_extended_resolution.false) c.args.place in
    rw c.as_slice-lock.ensures.value (omega (arith, below))

pub least_lock_msm-cell-requires : goal.least_lock_msm-cell-requires
least_lock_msm-cell-requires c =
    let below = lock_at c.args.message.now c.requires.valid (sym c.has_extended_resolution.ensures ∙ c.if-has_extended_resolution.false) c.args.place in
    rw c.as_slice-lock.ensures.value (omega (arith, below))
