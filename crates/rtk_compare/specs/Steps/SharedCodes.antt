-- The codes that two files have both, by system.
use Rattle.std.specs.Prelude.{◌≡◌, ◌≤◌, ℕ, List, length}
use Rattle.rtk_message.specs.declared.system.System.{System}
use Rattle.rtk_message.specs.declared.system.System.TheVariants.{Gps, Glonass, Galileo, Beidou, Qzss, Sbas, Navic}
use Rattle.rtk_obs.specs.SatelliteIndex.{system_at}
use Rattle.rtk_compare.specs.declared.shared_codes.SharedCode.{SharedCode}
use Rattle.rtk_compare.specs.declared.shared_codes.SharedCodes.{SharedCodes}

abbrev pub codes_in : SharedCodes → System → List SharedCode
codes_in s Gps = s.gps.items
codes_in s Glonass = s.glonass.items
codes_in s Galileo = s.galileo.items
codes_in s Beidou = s.beidou.items
codes_in s Qzss = s.qzss.items
codes_in s Sbas = s.sbas.items
codes_in s Navic = s.navic.items

-- those of the system of a satellite
abbrev pub codes_at : SharedCodes → ℕ → List SharedCode
codes_at s satellite = codes_in s (system_at satellite)

-- they are these, satellite by satellite
pub record HasShared (s : SharedCodes) (shared : ℕ → List SharedCode) : Type 0 where
  pub same : (satellite : ℕ) → codes_at s satellite ≡ shared satellite
  pub few : (satellite : ℕ) → length (shared satellite) ≤ 16
