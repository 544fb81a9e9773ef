-- The strengths of bands (this project's rule).
use Rattle.std.specs.Prelude.{ℕ, ◌==◌, get_or, Bool, List, [], ◌∷◌, ◌++◌, flat_map, Option, None, Some, if◌then◌else◌}
use Rattle.rtk_message.specs.declared.system.System.{System}
use Rattle.rtk_message.specs.declared.system.System.TheVariants.{Gps, Glonass, Galileo, Beidou, Qzss, Sbas, Navic}
use Rattle.rtk_obs.specs.AnyCode.{name_of, system_of}
use Rattle.rtk_obs.specs.declared.any_code.AnyCode.TheVariants.{G1C}
use Rattle.rtk_quality.specs.declared.strengths.CodeBand.{CodeBand}
use Rattle.rtk_quality.specs.declared.strengths.CodeBand.TheVariants.{B1, B2, B5, B6, B7, B8}
use Rattle.rtk_obs.specs.declared.any_code.AnyCode.{AnyCode}
use Rattle.rtk_rinex.specs.declared.epoch_table.Observed.{Observed}
use Rattle.rtk_rinex.specs.declared.epoch_table.SatelliteRow.{SatelliteRow}
use Rattle.rtk_quality.specs.declared.strengths.BandStrengths.{BandStrengths}
use Rattle.rtk_quality.specs.declared.strengths.ShownBands.{ShownBands}
use Rattle.rtk_quality.specs.declared.strengths.Strengths.{Strengths}

-- table
-- the band with this character in names of codes (RINEX 3.05, Tables 4 to 10)
abbrev pub band_named : ℕ → CodeBand
band_named x = if x == 49 then B1 else if x == 50 then B2 else if x == 53 then B5 else if x == 54 then B6 else if x == 55 then B7 else B8

-- the band of a code: the first character of its name
abbrev pub band_in_name : AnyCode → CodeBand
band_in_name code = band_named (get_or (name_of code) 0 0)

-- table
-- the bands of a system that have columns in the hours of a table: of Galileo 1, 5 and 7, of BeiDou 2, 6 and 7,
-- of the others 1, 2 and 5
abbrev pub bands_of_system : System → ShownBands
bands_of_system Gps = record { first = B1; second = B2; third = B5 }
bands_of_system Glonass = record { first = B1; second = B2; third = B5 }
bands_of_system Galileo = record { first = B1; second = B5; third = B7 }
bands_of_system Beidou = record { first = B2; second = B6; third = B7 }
bands_of_system Qzss = record { first = B1; second = B2; third = B5 }
bands_of_system Sbas = record { first = B1; second = B2; third = B5 }
bands_of_system Navic = record { first = B1; second = B2; third = B5 }

-- the system of these codes
abbrev pub system_of_codes : List AnyCode → System
system_of_codes listed = system_of (get_or listed 0 G1C)

-- the bands that have columns, by the system of these codes
abbrev pub shown_bands : List AnyCode → ShownBands
shown_bands listed = bands_of_system (system_of_codes listed)

-- table
-- the number of a band in the names of codes (RINEX 3.05, Tables 4 to 10)
abbrev pub number_of : CodeBand → ℕ
number_of B1 = 1
number_of B2 = 2
number_of B5 = 5
number_of B6 = 6
number_of B7 = 7
number_of B8 = 8

-- a code is of this band
abbrev pub is_of_band : CodeBand → AnyCode → Bool
is_of_band band code = number_of (band_in_name code) == number_of band

-- a strength, if it is there
abbrev pub list_of_strength : Option ℕ → List ℕ
list_of_strength None = []
list_of_strength (Some strength) = strength ∷ []

-- the strengths of a band in a row, whose codes are listed
abbrev pub strengths_of_row : CodeBand → List AnyCode → List Observed → List ℕ
strengths_of_row band [] os = []
strengths_of_row band (c ∷ cs) [] = []
strengths_of_row band (c ∷ cs) (o ∷ os) =
    (if is_of_band band c then list_of_strength o.strength_millidbhz else []) ++ strengths_of_row band cs os

-- those in the rows of a record
abbrev pub strengths_of_rows : CodeBand → List AnyCode → List SatelliteRow → List ℕ
strengths_of_rows band listed rows = flat_map (λ r. strengths_of_row band listed r.observed.items) rows

abbrev pub of_band : CodeBand → Strengths → BandStrengths
of_band B1 s = s.b1
of_band B2 s = s.b2
of_band B5 s = s.b5
of_band B6 s = s.b6
of_band B7 s = s.b7
of_band B8 s = s.b8
