-- What the words of a command line may give.
use Rattle.std.specs.Prelude.{◌≡◌, ◌⊎◌, ℕ, ◌≤◌, Bool, false, ◌&&◌, nat_eq, List, length, map, count_by, codes}
use Rattle.std.specs.Cmp.Lexicographic.{pointwise}
use Rattle.std.specs.Option.{ForSome}
use Rattle.rtk_convert.specs.Converter.{IsLinkCount}
use Rattle.rtk_setup.specs.Setup.{IsStation, IsWindow}
use Rattle.rtk_cut.specs.Cut.{IsStepOrNone}
use Rattle.rtk_chart.specs.Chart.{IsWidth}
use Rattle.rtk_cli.specs.FaultLines.{TellsCause}
use Rattle.rtk_cli.specs.declared.words.BadWords.{BadWords}
use Rattle.rtk_cli.specs.declared.words.Job.{Job}
use Rattle.rtk_cli.specs.declared.words.Job.TheVariants.{Convert, Chart, Cut, CutSystems, Compare}
use Rattle.rtk_cli.specs.declared.words.WordsFault.{WordsFault}
use Rattle.rtk_cli.specs.declared.words.WordsFault.TheVariants.{Clap, Bad, OutOfMemory}

-- formula
-- the word that names standard input
abbrev pub is_stdin : List ℕ → Bool
is_stdin word = pointwise nat_eq word (codes "stdin")

-- formula
-- the links of a conversion: 1 to 16, and standard input at most once (this project's rule)
abbrev pub AreLinkNames : List (List ℕ) → Type 0
AreLinkNames links = IsLinkCount (length links) × (count_by is_stdin links ≤ 1)

-- the files of a comparison: standard input is one of them at most (this project's rule)
abbrev pub AreComparedNames : List ℕ → List ℕ → Type 0
AreComparedNames old new = (is_stdin old && is_stdin new) ≡ false

-- formula
-- a conversion is of a station, a window and links within their limits; so is the width of a picture
-- in characters, and the step of a part; and standard input is one of two files at most
abbrev pub IsWithinLimits : Job → Type 0
IsWithinLimits (Convert setup links) =
    IsStation setup.station × IsWindow setup.window × AreLinkNames (map (λ link. link.now) links.items)
IsWithinLimits (Chart chart file) = ForSome chart.width IsWidth
IsWithinLimits (Cut part file) = IsStepOrNone part.every
IsWithinLimits (CutSystems command file) = IsStepOrNone command.part.every
IsWithinLimits (Compare command old new) = AreComparedNames old.now new.now
IsWithinLimits _ = Unit {0}

-- table
-- after a text of clap's the program ends with status 0 or 2; which of them is not said here. Fault
-- lines are those of a cause (this project's rule)
abbrev pub IsWordsFault : WordsFault → Type 0
IsWordsFault (Clap text status) = (status ≡ 0) ⊎ (status ≡ 2)
IsWordsFault (Bad line more) = (cause : BadWords) × TellsCause cause (Bad line more)
IsWordsFault OutOfMemory = Unit {0}
