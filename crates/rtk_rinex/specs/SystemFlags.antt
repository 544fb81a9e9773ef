-- Sets of systems.
use Rattle.std.specs.Prelude.{Bool, ◌&&◌}
use Rattle.rtk_message.specs.declared.system.System.{System}
use Rattle.rtk_message.specs.declared.system.System.TheVariants.{Gps, Glonass, Galileo, Beidou, Qzss, Sbas, Navic}
use Rattle.rtk_rinex.specs.declared.system_flags.SystemFlags.{SystemFlags}

-- table
-- a system is in the set
abbrev pub flag_of : SystemFlags → System → Bool
flag_of f Gps = f.gps
flag_of f Glonass = f.glonass
flag_of f Galileo = f.galileo
flag_of f Beidou = f.beidou
flag_of f Qzss = f.qzss
flag_of f Sbas = f.sbas
flag_of f Navic = f.navic

-- table
-- the systems that are in both sets
abbrev pub in_both : SystemFlags → SystemFlags → SystemFlags
in_both a b =
    record {
      gps = a.gps && b.gps;
      glonass = a.glonass && b.glonass;
      galileo = a.galileo && b.galileo;
      beidou = a.beidou && b.beidou;
      qzss = a.qzss && b.qzss;
      sbas = a.sbas && b.sbas;
      navic = a.navic && b.navic;
    }
