-- What the header of a file of any systems says of the lines of its satellites (this project's rule).
use Rattle.std.specs.Prelude.{ℕ, ◌+◌, ◌≤◌, ◌==◌, Bool, true, false, if◌then◌else◌, length, Option, Some, None, is_some}
use Rattle.rtk_message.specs.declared.system.System.{System}
use Rattle.rtk_message.specs.declared.system.System.TheVariants.{Gps, Glonass, Galileo, Beidou, Qzss, Sbas, Navic}
use Rattle.rtk_obs.specs.Carriers.{channel_at}
use Rattle.rtk_obs.specs.SatelliteIndex.{satellites_of_system, system_at, bit_at}
use Rattle.rtk_rinex.specs.MixedHead.{GlonassView, MixedHeadView}
use Rattle.rtk_rinex.specs.MixedHeader.{codes_of}

-- how many codes the header lists of each system, what it tells of GLONASS, and whether the lines show Doppler
-- shifts
pub record FormView : Type 0 where
  pub gps : ℕ
  pub glonass : ℕ
  pub galileo : ℕ
  pub beidou : ℕ
  pub qzss : ℕ
  pub sbas : ℕ
  pub navic : ℕ
  pub told : Option GlonassView
  pub doppler : Bool

-- how many codes a system has
abbrev pub codes_in : FormView → System → ℕ
codes_in f Gps = f.gps
codes_in f Glonass = f.glonass
codes_in f Galileo = f.galileo
codes_in f Beidou = f.beidou
codes_in f Qzss = f.qzss
codes_in f Sbas = f.sbas
codes_in f Navic = f.navic

-- a system has at most 16 codes
abbrev pub IsFormView : FormView → Type 0
IsFormView f = (s : System) → codes_in f s ≤ 16

-- how many codes the line of a satellite shows
abbrev pub width_at : FormView → ℕ → ℕ
width_at f satellite = codes_in f (system_at satellite)

-- the header tells the channel of a slot of GLONASS
abbrev pub has_channel : Option GlonassView → ℕ → Bool
has_channel None slot = false
has_channel (Some g) slot = is_some (channel_at g.channels slot)

-- formula
-- the satellite of a system and a mask bit may show phases: a phase of GLONASS has no meaning without the
-- channel of its slot
abbrev pub phases_in : FormView → System → ℕ → Bool
phases_in f Gps bit = true
phases_in f Glonass bit = has_channel f.told bit
phases_in f Galileo bit = true
phases_in f Beidou bit = true
phases_in f Qzss bit = true
phases_in f Sbas bit = true
phases_in f Navic bit = true

abbrev pub has_phases : FormView → ℕ → Bool
has_phases f satellite = phases_in f (system_at satellite) (bit_at satellite)

-- how many satellites of a system can have a line
abbrev pub satellites_with : FormView → System → ℕ
satellites_with f s = if codes_in f s == 0 then 0 else satellites_of_system s

-- formula
-- the most satellites of an epoch: all of the systems with codes
abbrev pub most_satellites : FormView → ℕ
most_satellites f =
    satellites_with f Gps + satellites_with f Glonass + satellites_with f Galileo + satellites_with f Beidou
    + satellites_with f Qzss + satellites_with f Sbas + satellites_with f Navic

-- formula
-- what a head says of the lines
abbrev pub form_of_head : MixedHeadView → FormView
form_of_head h =
    record {
      gps = length (codes_of 71 h.listed);
      glonass = length (codes_of 82 h.listed);
      galileo = length (codes_of 69 h.listed);
      beidou = length (codes_of 67 h.listed);
      qzss = length (codes_of 74 h.listed);
      sbas = length (codes_of 83 h.listed);
      navic = length (codes_of 73 h.listed);
      told = h.glonass;
      doppler = h.doppler;
    }
