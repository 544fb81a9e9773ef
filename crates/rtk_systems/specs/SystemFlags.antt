-- The systems of which codes are listed, and those of them that date.
use Rattle.std.specs.Prelude.{Bool, List, Option, None, Some, ◌||◌, if◌then◌else◌}
use Rattle.std.specs.declared.vec.Vec.{Vec}
use Rattle.rtk_message.specs.declared.system.System.TheVariants.{Gps, Glonass, Galileo, Beidou, Qzss, Sbas, Navic}
use Rattle.rtk_obs.specs.declared.any_code.AnyCode.{AnyCode}
use Rattle.rtk_setup.specs.Setup.{lists_system}
use Rattle.rtk_survey.specs.Targets.{all_dating}
use Rattle.rtk_survey.specs.declared.dating_systems.DatingSystems.{DatingSystems}
use Rattle.rtk_rinex.specs.declared.system_flags.SystemFlags.{SystemFlags}

-- table
-- the systems of which some code is listed
abbrev pub flags_listed : List AnyCode → SystemFlags
flags_listed cs =
    record {
      gps = lists_system cs Gps;
      glonass = lists_system cs Glonass;
      galileo = lists_system cs Galileo;
      beidou = lists_system cs Beidou;
      qzss = lists_system cs Qzss;
      sbas = lists_system cs Sbas;
      navic = lists_system cs Navic;
    }

-- ---- the systems that date

-- table
abbrev pub dating_among : SystemFlags → DatingSystems
dating_among f = record { gps = f.gps; galileo = f.galileo; qzss = f.qzss; sbas = f.sbas; navic = f.navic }

abbrev pub has_some_dating : SystemFlags → Bool
has_some_dating f = f.gps || (f.galileo || (f.qzss || (f.sbas || f.navic)))

-- those of a set that can date, or else all that can
abbrev pub dating_of : SystemFlags → DatingSystems
dating_of f = if has_some_dating f then dating_among f else all_dating

-- those of the codes that are named, or else those that are wanted
abbrev pub dating_wanted : {A : Type 0} → Option (Vec AnyCode A) → SystemFlags → DatingSystems
dating_wanted None wanted = dating_of wanted
dating_wanted (Some named) wanted = dating_of (flags_listed named.items)
