use Rattle.std.proofs.Common.{rules}
use Rattle.rtk_obs.specs.Carriers.{AreChannels}
use Rattle.rtk_systems.proofs.slot_channels.channels_found.Goals as goal

pub returns : goal.returns
returns c =
    let good : AreChannels c.channels_by.result = search rules in
    record { good = good; own = c.own_channels-own.result; own_are = c.own_channels-own.ensures; each = c.channels_by.ensures }
