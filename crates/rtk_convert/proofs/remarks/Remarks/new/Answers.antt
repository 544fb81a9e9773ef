use Rattle.std.proofs.Common.{◌≡◌, false, refl}
use Rattle.rtk_message.specs.declared.system.System.{System}
use Rattle.rtk_message.specs.declared.system.System.TheVariants.{Gps, Glonass, Galileo, Beidou, Qzss, Sbas, Navic}
use Rattle.rtk_convert.specs.Systems.{has_system, no_systems}
use Rattle.rtk_convert.proofs.remarks.Remarks.new.Goals as goal

-- no message of a system was taken at the start
none-taken : (system : System) → has_system no_systems system ≡ false
none-taken Gps = refl
none-taken Glonass = refl
none-taken Galileo = refl
none-taken Beidou = refl
none-taken Qzss = refl
none-taken Sbas = refl
none-taken Navic = refl

pub returns : goal.returns
returns c = record { systems = none-taken; other_channels = c.new-other_channels.ensures; no_channels = c.new-no_channels.ensures }
