use Rattle.std.proofs.Common.{◌∙◌, sym, subst, ap}
use Rattle.std.specs.List.{All}
use Rattle.rtk_message.specs.AnyDecoded.{IsValid}
use Rattle.rtk_message.specs.declared.any_message.AnyMessage.TheVariants as any
use Rattle.rtk_obs.specs.SignalCells.{IsSignalInRange}
use Rattle.rtk_collect.specs.declared.dated_ref.Borrowed.{Borrowed}
use Rattle.rtk_collect.specs.Signals.{entries_by}
use Rattle.rtk_collect.specs.Steps.Borrowed.{borrowed}
use Rattle.rtk_collect.proofs.SignalLemmas.{entries_by-1012, entries_by-range}
use Rattle.rtk_collect.proofs.dated_ref.Borrowed.put_entries.Goals as goal

pub returns-in-Message-clause-cells : goal.returns-in-Message-clause-cells
returns-in-Message-clause-cells c =
    c.put_four.ensures c.args.doppler c.args.channels.now ∙ ap (λ (b : Borrowed). entries_by c.args.sbas c.args.doppler c.args.channels.now (borrowed b)) (sym c.in-Message.is)

pub returns-in-Message-clause-ranges : goal.returns-in-Message-clause-ranges
returns-in-Message-clause-ranges c =
    subst (All IsSignalInRange) (sym (c.put_four.ensures c.args.doppler c.args.channels.now))
    (entries_by-range c.args.sbas c.args.doppler c.args.channels.now (any.Message c.in-Message.message.now) (subst (λ (b : Borrowed). IsValid (borrowed b)) c.in-Message.is c.requires))

pub returns-in-Msm-clause-cells : goal.returns-in-Msm-clause-cells
returns-in-Msm-clause-cells c =
    c.put_msm.ensures c.args.sbas ∙ ap (λ (b : Borrowed). entries_by c.args.sbas c.args.doppler c.args.channels.now (borrowed b)) (sym c.in-Msm.is)

pub returns-in-Msm-clause-ranges : goal.returns-in-Msm-clause-ranges
returns-in-Msm-clause-ranges c =
    subst (All IsSignalInRange) (sym (c.put_msm.ensures c.args.sbas))
    (entries_by-range c.args.sbas c.args.doppler c.args.channels.now (any.Msm c.in-Msm.message.now) (subst (λ (b : Borrowed). IsValid (borrowed b)) c.in-Msm.is c.requires))

pub returns-in-Obs1012-clause-cells : goal.returns-in-Obs1012-clause-cells
returns-in-Obs1012-clause-cells c =
    c.put_entries_1012.ensures ∙ sym (entries_by-1012 c.args.sbas c.args.doppler c.args.channels.now c.in-Obs1012.message.now)
    ∙ ap (λ (b : Borrowed). entries_by c.args.sbas c.args.doppler c.args.channels.now (borrowed b)) (sym c.in-Obs1012.is)

pub returns-in-Obs1012-clause-ranges : goal.returns-in-Obs1012-clause-ranges
returns-in-Obs1012-clause-ranges c =
    subst (All IsSignalInRange) (sym (c.put_entries_1012.ensures ∙ sym (entries_by-1012 c.args.sbas c.args.doppler c.args.channels.now c.in-Obs1012.message.now)))
    (entries_by-range c.args.sbas c.args.doppler c.args.channels.now (any.Obs1012 c.in-Obs1012.message.now) (subst (λ (b : Borrowed). IsValid (borrowed b)) c.in-Obs1012.is c.requires))
