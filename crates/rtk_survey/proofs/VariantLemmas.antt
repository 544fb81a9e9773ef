-- Messages of GPS and of other systems, by their variants.
use Rattle.std.proofs.Common.{◌≡◌, false, not, refl}
use Rattle.rtk_message.specs.declared.any_message.AnyMessage.TheVariants as any
use Rattle.rtk_message.specs.declared.message.Message.{Message}
use Rattle.rtk_message.specs.declared.message.Message.TheVariants.{Obs1004, Arp1005, Arp1006, Msm1074}
use Rattle.rtk_message.specs.declared.msm.Msm.{Msm}
use Rattle.rtk_message.specs.declared.msm_kind.MsmKind.{MsmKind}
use Rattle.rtk_message.specs.declared.msm_kind.MsmKind.TheVariants.{Msm4, Msm5, Msm6, Msm7}
use Rattle.rtk_message.specs.declared.system.System.{System}
use Rattle.rtk_message.specs.declared.system.System.TheVariants.{Gps, Glonass, Galileo, Beidou, Qzss, Sbas, Navic}
use Rattle.rtk_message.specs.Systems.{number_of_type}
use Rattle.rtk_survey.specs.BesideGps.{is_other_system}
use Rattle.rtk_survey.specs.Tracing.{is_gps_number, is_beside_gps}

-- the number of an MSM is one of GPS if it is of GPS
by-type : (s : System) (k : MsmKind) → not (is_gps_number (number_of_type (record { system = s; kind = k }))) ≡ is_other_system s
by-type Gps Msm4 = refl
by-type Gps Msm5 = refl
by-type Gps Msm6 = refl
by-type Gps Msm7 = refl
by-type Glonass Msm4 = refl
by-type Glonass Msm5 = refl
by-type Glonass Msm6 = refl
by-type Glonass Msm7 = refl
by-type Galileo Msm4 = refl
by-type Galileo Msm5 = refl
by-type Galileo Msm6 = refl
by-type Galileo Msm7 = refl
by-type Beidou Msm4 = refl
by-type Beidou Msm5 = refl
by-type Beidou Msm6 = refl
by-type Beidou Msm7 = refl
by-type Qzss Msm4 = refl
by-type Qzss Msm5 = refl
by-type Qzss Msm6 = refl
by-type Qzss Msm7 = refl
by-type Sbas Msm4 = refl
by-type Sbas Msm5 = refl
by-type Sbas Msm6 = refl
by-type Sbas Msm7 = refl
by-type Navic Msm4 = refl
by-type Navic Msm5 = refl
by-type Navic Msm6 = refl
by-type Navic Msm7 = refl

pub beside-four : (m : Message) → is_beside_gps (any.Message m) ≡ false
beside-four (Obs1004 m) = refl
beside-four (Arp1005 m) = refl
beside-four (Arp1006 m) = refl
beside-four (Msm1074 m) = refl

pub beside-msm : (m : Msm) → is_beside_gps (any.Msm m) ≡ is_other_system m.system
beside-msm m = by-type m.system m.kind
