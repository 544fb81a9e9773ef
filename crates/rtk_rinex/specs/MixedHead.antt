-- What is known of a file of any systems before its observations (this project's choice).
use Rattle.std.specs.Prelude.{◌≡◌, ◌≢◌, ◌≤◌, ℕ, ◌%◌, List, ◌==◌, Bool, true, false, length, ℤ, Option, Some, None, AllPairs}
use Rattle.std.specs.Int.{IsInRange}
use Rattle.std.specs.List.{list_any}
use Rattle.rtk_obs.specs.declared.any_code.AnyCode.{AnyCode}
use Rattle.rtk_obs.specs.AnyCode.{system_of, codes_before}
use Rattle.rtk_obs.specs.Carriers.{AreChannels}
use Rattle.rtk_obs.specs.SatelliteIndex.{letter_of}
use Rattle.rtk_obs.specs.Reading.{IsMoment}
use Rattle.rtk_rinex.specs.Header.{IsMarker}
use Rattle.rtk_rinex.specs.declared.mixed_head_fault.MixedHeadFault.{MixedHeadFault}
use Rattle.rtk_rinex.specs.declared.mixed_head_fault.MixedHeadFault.TheVariants.{Codes, Glonass}

-- what a file with codes of GLONASS tells of this system: the channel of each slot, if it is known, and
-- the leap seconds
pub record GlonassView : Type 0 where
  pub channels : List (Option ℤ)
  pub leap_seconds : ℕ

-- constant
-- channels of the slots, and leap seconds of two digits (this project's rule)
pub record IsGlonassView (g : GlonassView) : Type 0 where
  pub channels : AreChannels g.channels
  pub leap_seconds : g.leap_seconds ≤ 99

-- the marker's name, the listed codes, what the file tells of GLONASS, the moment at which it is made, and whether
-- it shows Doppler shifts
pub record MixedHeadView : Type 0 where
  pub marker : List ℕ
  pub listed : List AnyCode
  pub glonass : Option GlonassView
  pub made : ℕ
  pub doppler : Bool

-- formula
-- two codes, of which the first stands before the second: they are unlike, and the systems stand in the
-- order G R E C J S I (this project's rule)
pub record AreInOrder (c d : AnyCode) : Type 0 where
  pub unlike : c ≢ d
  pub systems : codes_before (system_of c) ≤ codes_before (system_of d)

-- formula
-- 1 to 69 codes, no two alike, system by system; so a system has at most 16 (this project's rule)
pub record IsMixedList (listed : List AnyCode) : Type 0 where
  pub count : IsInRange 1 69 (length listed)
  pub order : AllPairs AreInOrder listed

-- the letter of the system of a code
abbrev pub letter : AnyCode → ℕ
letter c = letter_of (system_of c)

-- some code is of GLONASS
abbrev pub has_glonass : List AnyCode → Bool
has_glonass = list_any (λ c. letter c == 82)

-- formula
-- with codes of GLONASS, and only with these, the file tells of this system (this project's rule)
abbrev pub TellsGlonass : List AnyCode → Option GlonassView → Type 0
TellsGlonass listed None = has_glonass listed ≡ false
TellsGlonass listed (Some g) = (has_glonass listed ≡ true) × IsGlonassView g

-- formula
-- a good marker, good codes, what is due of GLONASS, and a whole second (this project's rule)
pub record IsMixedHead (h : MixedHeadView) : Type 0 where
  pub marker : IsMarker h.marker
  pub listed : IsMixedList h.listed
  pub glonass : TellsGlonass h.listed h.glonass
  pub made : IsMoment h.made
  pub whole_second : h.made % 1000 ≡ 0

-- formula
-- why parts make no head: bad codes; or else GLONASS is told of without its codes, or is not told of
abbrev pub IsMixedHeadFault : List AnyCode → Option GlonassView → MixedHeadFault → Type 0
IsMixedHeadFault listed g Codes = ¬ (IsMixedList listed)
IsMixedHeadFault listed g Glonass = IsMixedList listed × ¬ (TellsGlonass listed g)
