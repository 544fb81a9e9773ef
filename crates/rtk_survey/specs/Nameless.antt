-- Messages with cells of satellites or signals that have no name in RINEX (this project's rule). Lists of messages are
-- newest first.
-- Source: RTCM 10403.3, DF009, DF038, DF046 and DF396
use Rattle.std.specs.Prelude.{ℕ, ◌+◌, ◌*◌, ◌==◌, negsuc, Bool, true, false, not, ◌&&◌, ◌||◌, length, nat_lt}
use Rattle.std.specs.List.{list_any}
use Rattle.std.specs.Ordering.{int_eq}
use Rattle.rtk_message.specs.declared.any_message.AnyMessage.{AnyMessage}
use Rattle.rtk_message.specs.declared.any_message.AnyMessage.TheVariants as any
use Rattle.rtk_message.specs.declared.message.Message.{Message}
use Rattle.rtk_message.specs.declared.message.Message.TheVariants.{Obs1004, Arp1005, Arp1006, Msm1074}
use Rattle.rtk_message.specs.declared.obs1004.Satellite.{Satellite}
use Rattle.rtk_message.specs.declared.obs1012.GlonassSatellite.{GlonassSatellite}
use Rattle.rtk_survey.specs.BesideGps.{cells_beside_gps}
use Rattle.rtk_survey.specs.Tracing.{is_numbered, entries_of_message}

-- ---- satellites

-- constant
-- a satellite of a 1004 is none of GPS, 1 to 32, and none of SBAS, 40 to 58 (DF009)
abbrev pub is_nameless_id : Satellite → Bool
is_nameless_id s = (s.satellite == 0) || ((nat_lt 32 s.satellite && nat_lt s.satellite 40) || nat_lt 58 s.satellite)

-- constant
-- a satellite of a 1012 has a value of L2: DF047, DF048 and DF050 tell none by -8192, -524288 and 0
abbrev pub has_value_on_l2 : GlonassSatellite → Bool
has_value_on_l2 s =
    not (int_eq s.l2_range_difference (negsuc 8191)) || (not (int_eq s.l2_phase_difference (negsuc 524_287)) || not (s.l2_cnr == 0))

-- constant
-- a satellite of a 1012 is in no slot from 1 to 27 (DF038), or has a value of L2 with a reserved code (DF046), 2 or 3
abbrev pub is_nameless_slot : GlonassSatellite → Bool
is_nameless_slot s = (s.slot == 0) || (nat_lt 27 s.slot || (nat_lt 1 s.l2_code && has_value_on_l2 s))

-- ---- cells

-- formula
-- how many cells a message has: of an MSM the set bits of its cell mask, of a 1004 and a 1012 two for each satellite
abbrev pub cells_sent_by_four : Message → ℕ
cells_sent_by_four (Obs1004 m) = 2 * length m.satellites
cells_sent_by_four (Arp1005 m) = 0
cells_sent_by_four (Arp1006 m) = 0
cells_sent_by_four (Msm1074 m) = length m.fine_range

abbrev pub cells_sent : AnyMessage → ℕ
cells_sent (any.Message m) = cells_sent_by_four m
cells_sent (any.Msm m) = length m.fine_range
cells_sent (any.Obs1012 m) = 2 * length m.satellites

-- formula
-- the message has more cells than cells with a name: those of GPS, and those of other systems
abbrev pub has_cells_left : AnyMessage → Bool
has_cells_left m = nat_lt (length (entries_of_message m) + length (cells_beside_gps m)) (cells_sent m)

-- ---- messages

-- the cells that are left have no name. Those of a 1004 or a 1012 may also be of a satellite that comes twice, of L2 of SBAS,
-- or of L2 without a value, so its satellites are looked at
abbrev pub lacks_name_of_four : Message → Bool
lacks_name_of_four (Obs1004 m) = list_any is_nameless_id m.satellites
lacks_name_of_four (Arp1005 m) = false
lacks_name_of_four (Arp1006 m) = false
lacks_name_of_four (Msm1074 m) = true

abbrev pub lacks_name : AnyMessage → Bool
lacks_name (any.Message m) = lacks_name_of_four m
lacks_name (any.Msm m) = true
lacks_name (any.Obs1012 m) = list_any is_nameless_slot m.satellites

-- a message with cells of satellites or signals that have no name
abbrev pub has_nameless : AnyMessage → Bool
has_nameless m = has_cells_left m && lacks_name m

-- and with this number (DF002)
abbrev pub is_nameless_numbered : ℕ → AnyMessage → Bool
is_nameless_numbered n m = has_nameless m && is_numbered n m
