use Rattle.std.proofs.Common.{sym, ◌∙◌}
use Rattle.rtk_survey.proofs.ChannelLemmas.{slot-told, no-slot}
use Rattle.rtk_survey.proofs.ResultLemmas.{on-ok}
use Rattle.rtk_survey.proofs.channels.take_slot_channel.Goals as goal

pub returns-in-Some : goal.returns-in-Some
returns-in-Some c = on-ok c.take_told.result
    (λ takes ts counts. slot-told c.args.counts.now c.take_told.new.counts c.args.message.now c.in-Some.told ts (sym c.in-Some.is ∙ c.slot_channel_in.ensures) takes counts)
    c.take_told.ensures

pub returns-in-None : goal.returns-in-None
returns-in-None c = λ ts counts. no-slot c.args.counts.now c.args.message.now ts (sym c.in-None.is ∙ c.slot_channel_in.ensures) counts
