use Rattle.std.proofs.Common.{rules}
use Rattle.rtk_obs.specs.Carriers.{AreChannels}
use Rattle.rtk_systems.proofs.slot_channels.own_channels.Goals as goal

pub returns : goal.returns
returns c =
    let good : AreChannels c.channels_told.result = search rules in
    record { good = good; each = c.channels_told.ensures }
