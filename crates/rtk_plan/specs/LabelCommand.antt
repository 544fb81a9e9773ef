-- The command of `label` that fits what messages told of a station, as sh takes it (this project's rule).
use Rattle.std.specs.Prelude.{ℕ, ◌==◌, List, [], ◌∷◌, ◌++◌, length, codes, Option, None, Some, if◌then◌else◌}
use Rattle.std.specs.Borrow.{Bor}
use Rattle.rtk_survey.specs.declared.equipment.Equipment.{Equipment}
use Rattle.rtk_label.specs.Labelled.{LabelView}
use Rattle.rtk_message.specs.ShellText.{sh_quoted}
use Rattle.rtk_plan.specs.SaidCommand.{word_text}
use Rattle.rtk_plan.specs.ToldLabel.{label_told}

-- formula
-- the option of a field, if it is filled
abbrev pub option_words : List ℕ → List ℕ → List ℕ
option_words option text = if length text == 0 then [] else option ++ word_text text

-- formula
-- the options of the fields that messages tell
unfoldable pub label_words : LabelView → List ℕ
label_words l =
    option_words (codes " --antenna-type ") l.antenna_type
    ++ option_words (codes " --antenna-number ") l.antenna_number
    ++ option_words (codes " --receiver-type ") l.receiver_type
    ++ option_words (codes " --receiver-version ") l.receiver_version
    ++ option_words (codes " --receiver-number ") l.receiver_number

-- formula
-- the file that is labelled; in capitals what is not known
abbrev pub file_word : Option (Bor (List ℕ)) → List ℕ
file_word None = codes "FILE"
file_word (Some name) = sh_quoted name.now

-- formula
-- the command with these options; without one there is none
abbrev pub command_with : List ℕ → Option (Bor (List ℕ)) → List ℕ
command_with [] file = []
command_with (x ∷ xs) file = codes "rtcm2rinex label" ++ (x ∷ xs) ++ codes " " ++ file_word file ++ 10 ∷ []

-- the command that fits what messages told of a station
abbrev pub label_text : Equipment → Option (Bor (List ℕ)) → List ℕ
label_text e file = command_with (label_words (label_told e)) file
