-- A set of satellite systems.
use Rattle.std.specs.Prelude.{Bool, true, false}
use Rattle.rtk_message.specs.declared.system.System.{System}
use Rattle.rtk_message.specs.declared.system.System.TheVariants.{Gps, Glonass, Galileo, Beidou, Qzss, Sbas, Navic}
use Rattle.rtk_convert.specs.declared.systems.Systems.{Systems}

abbrev pub no_systems : Systems
no_systems = record { gps = false; glonass = false; galileo = false; beidou = false; qzss = false; sbas = false; navic = false }

-- table
-- the set has this system
abbrev pub has_system : Systems → System → Bool
has_system set Gps = set.gps
has_system set Glonass = set.glonass
has_system set Galileo = set.galileo
has_system set Beidou = set.beidou
has_system set Qzss = set.qzss
has_system set Sbas = set.sbas
has_system set Navic = set.navic

-- table
-- the set with this system
abbrev pub with_system : Systems → System → Systems
with_system set Gps = record set { gps = true }
with_system set Glonass = record set { glonass = true }
with_system set Galileo = record set { galileo = true }
with_system set Beidou = record set { beidou = true }
with_system set Qzss = record set { qzss = true }
with_system set Sbas = record set { sbas = true }
with_system set Navic = record set { navic = true }
