use Rattle.std.proofs.Common.{sym, ◌∙◌}
use Rattle.rtk_survey.proofs.ChannelLemmas.{told-more, untold-more}
use Rattle.rtk_survey.proofs.ResultLemmas.{on-ok}
use Rattle.rtk_survey.proofs.channels.take_channels.Goals as goal

pub returns-then-tells_channels : goal.returns-then-tells_channels
returns-then-tells_channels c = on-ok c.take_slots.result
    (λ takes ms counts. told-more c.args.counts.now c.take_slots.new.counts c.args.message.now ms takes counts)
    c.take_slots.ensures

pub returns-else-tells_channels : goal.returns-else-tells_channels
returns-else-tells_channels c = λ ms counts. untold-more c.args.counts.now c.args.message.now ms (sym c.tells_channels.ensures ∙ c.if-tells_channels.false) counts
