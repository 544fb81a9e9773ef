use Rattle.std.proofs.Common.{Bool, ◌∙◌, sym, ap}
use Rattle.rtk_message.specs.declared.any_message.AnyMessage.TheVariants as any
use Rattle.rtk_collect.specs.Signals.{entries_by}
use Rattle.rtk_collect.proofs.SignalLemmas.{entries_by-msm}
use Rattle.rtk_collect.proofs.dated_ref.put_msm.Goals as goal

pub returns-then-doppler : goal.returns-then-doppler
returns-then-doppler c =
    λ sbas. c.put_doppler_entries.ensures ∙ ap (λ (b : Bool). entries_by sbas b c.args.channels.now (any.Msm c.args.message.now)) (sym c.if-doppler.true)

pub returns-else-doppler : goal.returns-else-doppler
returns-else-doppler c =
    λ sbas. c.put_signal_entries.ensures ∙ sym (entries_by-msm sbas c.args.channels.now c.args.message.now)
    ∙ ap (λ (b : Bool). entries_by sbas b c.args.channels.now (any.Msm c.args.message.now)) (sym c.if-doppler.false)
