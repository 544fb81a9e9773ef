use Rattle.std.proofs.Common.{◌∙◌, Bool, ap}
use Rattle.rtk_systems.specs.SlotChannels.{channel_if, count_told}
use Rattle.rtk_systems.proofs.ChannelLemmas.{told-few}
use Rattle.rtk_systems.proofs.slot_channels.channel_told.Goals as goal

pub channel_if-requires : goal.channel_if-requires
channel_if-requires c = told-few (count_told c.args.surveys.now c.args.source c.args.slot) c.told_field-field.result c.told_field-field.ensures

pub returns : goal.returns
returns c = (
  c.told_field-field.result,
  c.told_field-field.ensures,
  c.channel_if.ensures ∙ ap (λ (b : Bool). channel_if b c.told_field-field.result) c.is_slot_given.ensures,
)
