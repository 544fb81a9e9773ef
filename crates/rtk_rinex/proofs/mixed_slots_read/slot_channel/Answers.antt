use Rattle.std.proofs.Common.{◌∙◌}
use Rattle.rtk_rinex.proofs.HeaderShownLemmas.{shown_or}
use Rattle.rtk_rinex.proofs.SlotsReadLemmas.{channel_shown}
use Rattle.rtk_rinex.proofs.mixed_slots_read.slot_channel.Goals as goal

pub returns : goal.returns
returns c = λ k good shown.
    let s = channel_shown c.args.columns.now k c.is_same-is_negative.result good shown (rw c.columns_at.ensures.value at c.is_same-is_negative.ensures) in
    shown_or c.signed_channel.result c.any_channel.result c.unwrap_or.result k c.unwrap_or.ensures (c.signed_channel.ensures k good s.sign (c.number_at-digit.ensures.value ∙ s.digit))
