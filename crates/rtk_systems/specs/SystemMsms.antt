-- The kinds of MSM of systems, of which some have a listed code, and the option that names them (this project's rule).
use Rattle.std.specs.Prelude.{ℕ, ◌==◌, Bool, not, List, [], ◌∷◌, ◌++◌, flat_map, codes, Option, None, Some, if◌then◌else◌}
use Rattle.std.specs.List.{list_any}
use Rattle.rtk_message.specs.declared.msm_kind.MsmKind.{MsmKind}
use Rattle.rtk_message.specs.declared.msm_kind.MsmKind.TheVariants.{Msm4, Msm5, Msm6, Msm7}
use Rattle.rtk_message.specs.declared.system.System.{System}
use Rattle.rtk_message.specs.declared.system.System.TheVariants.{Gps, Glonass, Galileo, Beidou, Qzss, Sbas, Navic}
use Rattle.rtk_obs.specs.declared.any_code.AnyCode.{AnyCode}
use Rattle.rtk_obs.specs.AnyCode.{system_of}
use Rattle.rtk_obs.specs.SatelliteIndex.{letter_of}
use Rattle.rtk_setup.specs.Setup.{kind_of, lists_system}
use Rattle.rtk_setup.specs.declared.system_kinds.SystemKinds.{SystemKinds}
use Rattle.rtk_survey.specs.SummaryText.{msm_option}

-- table
-- the systems, in the order of a file
abbrev pub systems_in_order : List System
systems_in_order = Gps ∷ Glonass ∷ Galileo ∷ Beidou ∷ Qzss ∷ Sbas ∷ Navic ∷ []

-- ---- systems without a listed code

abbrev pub first_listed : List AnyCode → Option AnyCode
first_listed [] = None
first_listed (c ∷ cs) = Some c

abbrev pub kind_of_first : SystemKinds → Option AnyCode → MsmKind
kind_of_first ks None = ks.gps
kind_of_first ks (Some c) = kind_of ks (system_of c)

-- the kind of the system of the first listed code
abbrev pub first_kind : SystemKinds → List AnyCode → MsmKind
first_kind ks listed = kind_of_first ks (first_listed listed)

abbrev pub kind_or : SystemKinds → List AnyCode → MsmKind → System → MsmKind
kind_or ks listed first system = if lists_system listed system then kind_of ks system else first

-- table
abbrev pub kinds_or : SystemKinds → List AnyCode → MsmKind → SystemKinds
kinds_or ks listed first =
    record {
      gps = kind_or ks listed first Gps;
      glonass = kind_or ks listed first Glonass;
      galileo = kind_or ks listed first Galileo;
      beidou = kind_or ks listed first Beidou;
      qzss = kind_or ks listed first Qzss;
      sbas = kind_or ks listed first Sbas;
      navic = kind_or ks listed first Navic;
    }

-- these kinds, but for systems without a listed code that of the first system that has one: so an option names no
-- system that is not converted
abbrev pub kinds_listed : SystemKinds → List AnyCode → SystemKinds
kinds_listed ks listed = kinds_or ks listed (first_kind ks listed)

-- ---- the option that names them

-- table
-- the digit that an option writes for a kind
abbrev pub kind_digit : MsmKind → ℕ
kind_digit Msm4 = 52
kind_digit Msm5 = 53
kind_digit Msm6 = 54
kind_digit Msm7 = 55

-- another kind than the first
abbrev pub is_exception : MsmKind → MsmKind → Bool
is_exception first kind = not (kind_digit kind == kind_digit first)

abbrev pub is_exception_of : MsmKind → SystemKinds → System → Bool
is_exception_of first ks s = is_exception first (kind_of ks s)

abbrev pub has_exception : MsmKind → SystemKinds → Bool
has_exception first ks = list_any (is_exception_of first ks) systems_in_order

-- formula
-- an exception stands behind a comma, with the letter of its system
abbrev pub exception_text : MsmKind → System → MsmKind → List ℕ
exception_text first system kind = if is_exception first kind then 44 ∷ letter_of system ∷ kind_digit kind ∷ [] else []

abbrev pub exception_text_of : MsmKind → SystemKinds → System → List ℕ
exception_text_of first ks s = exception_text first s (kind_of ks s)

abbrev pub exceptions_text : MsmKind → SystemKinds → List ℕ
exceptions_text first ks = flat_map (exception_text_of first ks) systems_in_order

-- formula
abbrev pub first_and_exceptions : MsmKind → SystemKinds → List ℕ
first_and_exceptions first ks = codes " --msm " ++ kind_digit first ∷ exceptions_text first ks

-- formula
-- one kind for all systems, and exceptions; `convert` takes MSM4 without the option
abbrev pub msm_option_text : MsmKind → SystemKinds → List ℕ
msm_option_text first ks = if has_exception first ks then first_and_exceptions first ks else msm_option first

-- the option of the kinds of a conversion with these codes
unfoldable pub kinds_words : SystemKinds → List AnyCode → List ℕ
kinds_words ks listed = msm_option_text (first_kind ks listed) ks
