-- A list of observation codes of all systems as the words of a command line write it, and why a text is no such
-- list.
use Rattle.std.specs.Prelude.{◌≡◌, ◌≢◌, ℕ, ◌==◌, if◌then◌else◌, List, [], ◌∷◌, ◌++◌, map}
use Rattle.rtk_message.specs.declared.system.System.{System}
use Rattle.rtk_obs.specs.declared.any_code.AnyCode.{AnyCode}
use Rattle.rtk_obs.specs.declared.code.Code.{Code}
use Rattle.rtk_obs.specs.AnyCode.{name_of, text_of}
use Rattle.rtk_obs.specs.Code as gps
use Rattle.rtk_obs.specs.SatelliteIndex.{letter_of}
use Rattle.rtk_rinex.specs.MixedHead.{letter}
use Rattle.rtk_rinex.specs.MixedHeader.{codes_of}
use Rattle.rtk_cli.specs.declared.words.BadWords.{BadWords}
use Rattle.rtk_cli.specs.declared.words.BadWords.TheVariants.{Codes, CodeOfSystem, CodeOfGps}
use Rattle.rtk_cli.specs.Steps.Parts.{marked_parts}

-- ---- lists

-- formula
-- the word of a code: band and attribute alone for GPS, as 1C, and behind the letter of the system for any other, as
-- E1X (this project's rule)
abbrev pub code_word : AnyCode → List ℕ
code_word c = if letter c == 71 then name_of c else text_of c

-- formula
-- the text lists these codes, one or more: its parts between commas are their words (this project's rule)
abbrev pub ListsCodes : List ℕ → List AnyCode → Type 0
ListsCodes text listed = marked_parts 44 text ≡ map code_word listed

-- formula
-- the codes system by system, in the order G R E C J S I; those of a system stay in their order (this project's rule)
abbrev pub in_file_order : List AnyCode → List AnyCode
in_file_order listed =
    codes_of 71 listed ++ codes_of 82 listed ++ codes_of 69 listed ++ codes_of 67 listed ++ codes_of 74 listed
    ++ codes_of 83 listed ++ codes_of 73 listed

-- ---- what is no list

-- a part of the text is no code's word, and all before it are
abbrev pub IsFirstBadName : List ℕ → List ℕ → Type 0
IsFirstBadName text name =
    (good : List AnyCode) × (more : List (List ℕ)) × (marked_parts 44 text ≡ map code_word good ++ name ∷ more)
    × ((c : AnyCode) → name ≢ code_word c)

-- the name has three characters, of which the first is the letter of a system
abbrev pub HasLetter : System → List ℕ → Type 0
HasLetter s name = (band : ℕ) × (attribute : ℕ) × (name ≡ letter_of s ∷ band ∷ attribute ∷ [])

-- formula
-- what is said of a name that is no code's word: that it is the word of a code of GPS behind the letter of GPS; or which
-- codes the system has whose letter it begins with; or nothing more (this project's rule)
abbrev pub IsCauseOfName : List ℕ → BadWords → Type 0
IsCauseOfName name (CodeOfGps c) = name ≡ 71 ∷ gps.name_of c
IsCauseOfName name (CodeOfSystem s) = HasLetter s name × ((c : Code) → name ≢ 71 ∷ gps.name_of c)
IsCauseOfName name Codes = (s : System) → ¬ (HasLetter s name)
IsCauseOfName name _ = ⊥

-- formula
-- the cause is that of the first name that is no code's word (this project's rule)
abbrev pub IsNameCause : List ℕ → BadWords → Type 0
IsNameCause text cause = (name : List ℕ) × IsFirstBadName text name × IsCauseOfName name cause
