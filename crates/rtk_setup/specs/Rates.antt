-- The listed systems whose MSM tell no range rates. A file has Doppler shifts of range rates alone.
use Rattle.std.specs.Prelude.{Bool, true, false, not, ◌&&◌, List, Option, None, Some, if◌then◌else◌}
use Rattle.rtk_message.specs.MsmForm.{has_rates}
use Rattle.rtk_message.specs.declared.system.System.{System}
use Rattle.rtk_message.specs.declared.system.System.TheVariants.{Gps, Glonass, Galileo, Beidou, Qzss, Sbas, Navic}
use Rattle.rtk_obs.specs.declared.any_code.AnyCode.{AnyCode}
use Rattle.rtk_setup.specs.Setup.{kind_of, lists_system}
use Rattle.rtk_setup.specs.declared.system_kinds.SystemKinds.{SystemKinds}

-- some code of a system is listed, and its MSM has no range rates
abbrev pub lacks_rates : SystemKinds → List AnyCode → System → Bool
lacks_rates ks listed s = lists_system listed s && not (has_rates (kind_of ks s))

-- this system, if it lacks them, or else this answer
abbrev pub lacking_or : SystemKinds → List AnyCode → System → Option System → Option System
lacking_or ks listed s other = if lacks_rates ks listed s then Some s else other

-- formula
-- the first system, in the order G R E C J S I, of which some code is listed and whose MSM has no range rates (this
-- project's rule)
abbrev pub first_without_rates : SystemKinds → List AnyCode → Option System
first_without_rates ks listed =
    lacking_or ks listed Gps
    (lacking_or ks listed Glonass
    (lacking_or ks listed Galileo
    (lacking_or ks listed Beidou (lacking_or ks listed Qzss (lacking_or ks listed Sbas (lacking_or ks listed Navic None))))))

-- the same, if Doppler shifts are asked for (true); so a file can show what is asked for if there is no such system
abbrev pub without_rates : Bool → SystemKinds → List AnyCode → Option System
without_rates false ks listed = None
without_rates true ks listed = first_without_rates ks listed
