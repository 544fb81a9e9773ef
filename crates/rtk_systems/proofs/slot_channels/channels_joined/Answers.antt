use Rattle.std.proofs.Common.{rules}
use Rattle.rtk_obs.specs.Carriers.{AreChannels}
use Rattle.rtk_systems.proofs.slot_channels.channels_joined.Goals as goal

pub returns : goal.returns
returns c =
    let good : AreChannels c.channels_of_both.result = search rules in
    record { good = good; each = c.channels_of_both.ensures }
