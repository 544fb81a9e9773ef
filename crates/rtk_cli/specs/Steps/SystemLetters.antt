-- Systems as the words of a command line name them: by their letters.
use Rattle.std.specs.Prelude.{◌≡◌, ℕ, ◌==◌, Bool, false, not, ◌&&◌, List, length, codes, Option, IsSomeAnd, IsTrue}
use Rattle.std.specs.Borrow.{Bor}
use Rattle.std.specs.List.{list_any, list_all}
use Rattle.rtk_message.specs.declared.system.System.{System}
use Rattle.rtk_message.specs.declared.system.System.TheVariants.{Gps, Glonass, Galileo, Beidou, Qzss, Sbas, Navic}
use Rattle.rtk_obs.specs.SatelliteIndex.{letter_of}
use Rattle.rtk_rinex.specs.declared.system_flags.SystemFlags.{SystemFlags}

-- table
-- the letter of a system (RINEX 3.05, section 3.5)
abbrev pub is_system : ℕ → Bool
is_system x = list_any (λ y. y == x) (codes "GRECJSI")

-- formula
-- letters of systems, one or more; one may stand twice (this project's rule)
abbrev pub are_systems : List ℕ → Bool
are_systems text = not (length text == 0) && list_all is_system text

-- the option is there, and its text is not of letters of systems
abbrev pub HasNoSystems : Option (Bor (List ℕ)) → Type 0
HasNoSystems o = IsSomeAnd o (λ text. are_systems text.now ≡ false)

-- a text has the letter of a system
abbrev pub names_system : List ℕ → System → Bool
names_system text s = list_any (λ x. x == letter_of s) text

-- table
-- the systems of which a text has the letter
abbrev pub named_systems : List ℕ → SystemFlags
named_systems text =
    record {
      gps = names_system text Gps;
      glonass = names_system text Glonass;
      galileo = names_system text Galileo;
      beidou = names_system text Beidou;
      qzss = names_system text Qzss;
      sbas = names_system text Sbas;
      navic = names_system text Navic;
    }

-- the text is of letters of systems, which are these
abbrev pub NamesSystems : List ℕ → SystemFlags → Type 0
NamesSystems text systems = IsTrue (are_systems text) × (systems ≡ named_systems text)
