-- The satellites of each system that a file has, by their numbers (this project's rule).
use Rattle.std.specs.Prelude.{ℕ, Bool, count_by}
use Rattle.rtk_message.specs.declared.system.System.{System}
use Rattle.rtk_message.specs.declared.system.System.TheVariants.{Gps, Glonass, Galileo, Beidou, Qzss, Sbas, Navic}
use Rattle.rtk_plan.specs.declared.satellite_marks.SatelliteMarks.{SatelliteMarks}

abbrev pub is_satellite_mark : Bool → Bool
is_satellite_mark mark = mark

-- table
abbrev pub marked_count : SatelliteMarks → System → ℕ
marked_count m Gps = count_by is_satellite_mark m.gps
marked_count m Glonass = count_by is_satellite_mark m.glonass
marked_count m Galileo = count_by is_satellite_mark m.galileo
marked_count m Beidou = count_by is_satellite_mark m.beidou
marked_count m Qzss = count_by is_satellite_mark m.qzss
marked_count m Sbas = count_by is_satellite_mark m.sbas
marked_count m Navic = count_by is_satellite_mark m.navic
