-- Satellites of SBAS in a 1004.
use Rattle.std.specs.Prelude.{Bool, false, ◌&&◌, nat_le}
use Rattle.std.specs.List.{list_any}
use Rattle.rtk_message.specs.declared.any_message.AnyMessage.{AnyMessage}
use Rattle.rtk_message.specs.declared.any_message.AnyMessage.TheVariants as any
use Rattle.rtk_message.specs.declared.message.Message.{Message}
use Rattle.rtk_message.specs.declared.message.Message.TheVariants.{Obs1004, Arp1005, Arp1006, Msm1074}
use Rattle.rtk_message.specs.declared.obs1004.Satellite.{Satellite}

-- constant
-- the satellite IDs 40 to 58
-- Source: RTCM 10403.3, DF009
abbrev pub is_sbas : Satellite → Bool
is_sbas s = nat_le 40 s.satellite && nat_le s.satellite 58

abbrev pub has_sbas_of_four : Message → Bool
has_sbas_of_four (Obs1004 m) = list_any is_sbas m.satellites
has_sbas_of_four (Arp1005 m) = false
has_sbas_of_four (Arp1006 m) = false
has_sbas_of_four (Msm1074 m) = false

-- a 1004 with a satellite of SBAS
abbrev pub has_sbas : AnyMessage → Bool
has_sbas (any.Message m) = has_sbas_of_four m
has_sbas (any.Msm m) = false
has_sbas (any.Obs1012 m) = false
