use Rattle.std.proofs.Common.{◌∙◌, ℤ, Bool, Option, ap}
use Rattle.rtk_systems.specs.AlikeChannels.{is_alike}
use Rattle.rtk_systems.specs.SlotChannels.{chosen_channel}
use Rattle.rtk_systems.proofs.slot_channels.channel_found.Goals as goal

pub returns : goal.returns
returns c = (
  c.channel_told-other.result,
  c.channel_told-other.ensures,
  c.chosen_channel.ensures ∙ ap (λ (b : Bool). chosen_channel b c.channel.result c.channel_told-other.result) c.is_alike.ensures
      ∙ ap (λ (o : Option ℤ). chosen_channel (is_alike c.args.own.now c.args.slot) o c.channel_told-other.result) c.channel.ensures,
)
