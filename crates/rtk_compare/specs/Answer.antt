-- The text of the differences of two files, as lines or as one JSON object (this project's rule).
use Rattle.std.specs.Prelude.{ℕ, ◌-◌, nat_lt, ◌==◌, Bool, true, false, ◌||◌, if◌then◌else◌, List, [], ◌∷◌, ◌++◌, length, flat_map, codes, decimal, Option, None, Some}
use Rattle.rtk_obs.specs.declared.any_code.AnyCode.{AnyCode}
use Rattle.rtk_obs.specs.AnyCode.{name_of, text_of}
use Rattle.rtk_obs.specs.CivilText.{civil_text}
use Rattle.rtk_obs.specs.SatelliteIndex.{index_name}
use Rattle.rtk_obs.specs.Reading.{reading_of}
use Rattle.rtk_compare.specs.declared.difference.Class.{Class}
use Rattle.rtk_compare.specs.declared.difference.Class.TheVariants.{Lost, Changed, Explained}
use Rattle.rtk_compare.specs.declared.difference.What.{What}
use Rattle.rtk_compare.specs.declared.difference.What.TheVariants as what
use Rattle.rtk_compare.specs.declared.difference.Place.{Place}
use Rattle.rtk_compare.specs.declared.difference.Difference.{Difference}
use Rattle.rtk_compare.specs.declared.findings.Found.{Found}
use Rattle.rtk_compare.specs.declared.findings.Findings.{Findings}
use Rattle.rtk_compare.specs.declared.form.Form.{Form}
use Rattle.rtk_compare.specs.declared.form.Form.TheVariants.{Lines, Json}

-- a text in a line, and another one in JSON
abbrev pub in_form : Form → List ℕ → List ℕ → List ℕ
in_form Lines line json = line
in_form Json line json = json

-- table
abbrev pub class_word : Class → List ℕ
class_word Lost = codes "lost"
class_word Changed = codes "changed"
class_word Explained = codes "explained"

-- table
abbrev pub what_word : What → List ℕ
what_word what.Marker = codes "marker"
what_word what.Position = codes "position"
what_word what.Height = codes "height"
what_word what.Code = codes "code"
what_word what.Channel = codes "channel"
what_word what.LeapSeconds = codes "leap-seconds"
what_word what.RunBy = codes "run-by"
what_word what.MarkerNumber = codes "marker-number"
what_word what.Observer = codes "observer"
what_word what.Agency = codes "agency"
what_word what.ReceiverNumber = codes "receiver-number"
what_word what.ReceiverType = codes "receiver-type"
what_word what.ReceiverVersion = codes "receiver-version"
what_word what.AntennaNumber = codes "antenna-number"
what_word what.AntennaType = codes "antenna-type"
what_word what.DeltaHeight = codes "delta-height"
what_word what.DeltaEast = codes "delta-east"
what_word what.DeltaNorth = codes "delta-north"
what_word what.Epoch = codes "epoch"
what_word what.Satellite = codes "satellite"
what_word what.Range = codes "range"
what_word what.Phase = codes "phase"
what_word what.Strength = codes "strength"
what_word what.Doppler = codes "doppler"
what_word what.Finer = codes "finer"
what_word what.Roll = codes "roll"
what_word what.Slip = codes "slip"
what_word what.FirstSlip = codes "first-slip"
what_word what.FilledSlip = codes "filled-slip"
what_word what.NewSlip = codes "new-slip"
what_word what.HalfCycle = codes "half-cycle"

-- formula
-- a word after a blank, or in quotes after its key
abbrev pub keyed_word : Form → List ℕ → List ℕ → List ℕ
keyed_word form key word = in_form form (32 ∷ word) (key ++ 34 ∷ word ++ 34 ∷ [])

abbrev pub epoch_word : Form → ℕ → List ℕ
epoch_word form time = keyed_word form (codes ",\"time\":") (civil_text (reading_of time))

abbrev pub satellite_text : Form → ℕ → List ℕ
satellite_text form satellite = keyed_word form (codes ",\"satellite\":") (index_name satellite)

abbrev pub time_of_place : Form → Option ℕ → List ℕ
time_of_place form None = []
time_of_place form (Some time) = epoch_word form time

-- behind a satellite a code has no letter of a system
abbrev pub code_of_place : Form → Option AnyCode → Option ℕ → List ℕ
code_of_place form None satellite = []
code_of_place form (Some code) None = keyed_word form (codes ",\"code\":") (text_of code)
code_of_place form (Some code) (Some satellite) = keyed_word form (codes ",\"code\":") (name_of code)

abbrev pub satellite_of_place : Form → Option ℕ → List ℕ
satellite_of_place form None = []
satellite_of_place form (Some satellite) = satellite_text form satellite

abbrev pub slot_of_place : Form → Option ℕ → List ℕ
slot_of_place form None = []
slot_of_place form (Some slot) = in_form form (codes " ") (codes ",\"slot\":") ++ decimal slot

-- formula
-- where a difference is
abbrev pub place_text : Form → Place → List ℕ
place_text form p =
    time_of_place form p.time ++ satellite_of_place form p.satellite ++ code_of_place form p.code p.satellite ++ slot_of_place form p.slot

-- formula
-- the class at the begin of a line, or of an object
abbrev pub class_text : Form → Class → List ℕ
class_text Lines c = class_word c
class_text Json c = codes "{\"class\":\"" ++ class_word c ++ 34 ∷ []

-- formula
-- a line, or an object
unfoldable pub difference_text : Form → Difference → List ℕ
difference_text form d =
    class_text form d.class ++ keyed_word form (codes ",\"what\":") (what_word d.what) ++ place_text form d.place ++ in_form form (codes "\n") (codes "}")

-- ---- lines

-- formula
-- a count after its word, or after its key
abbrev pub count_text : Form → List ℕ → List ℕ → ℕ → List ℕ
count_text form word key count = in_form form word key ++ decimal count

-- formula
-- the counts of all three classes
abbrev pub class_counts : Form → Findings → List ℕ
class_counts form f =
    count_text form (codes "lost ") (codes "{\"lost\":") f.lost.count
    ++ count_text form (codes " changed ") (codes ",\"changed\":") f.changed.count
    ++ count_text form (codes " explained ") (codes ",\"explained\":") f.explained.count

-- formula
-- how many more differences of a class there are than those that have lines
abbrev pub more_line : Class → ℕ → List ℕ
more_line c n = if n == 0 then [] else codes "more-" ++ class_word c ++ 32 ∷ decimal n ++ 10 ∷ []

-- the lines of the first differences of a class
abbrev pub class_lines : Class → Found → List ℕ
class_lines c found = flat_map (difference_text Lines) found.first.items ++ more_line c (found.count - 100)

-- formula
-- the lines of what was found
unfoldable pub lines_text : Findings → List ℕ
lines_text f =
    class_counts Lines f ++ 10 ∷ class_lines Lost f.lost ++ class_lines Changed f.changed ++ class_lines Explained f.explained

-- ---- JSON

-- an object, with a comma before it if others stand there
abbrev pub object_text : Bool → Difference → List ℕ
object_text are_others d = (if are_others then codes ",\n" else []) ++ difference_text Json d

-- objects, each on a line
abbrev pub objects_text : Bool → List Difference → List ℕ
objects_text are_others [] = []
objects_text are_others (d ∷ ds) = object_text are_others d ++ objects_text true ds

abbrev pub has_kept : Found → Bool
has_kept found = nat_lt 0 (length found.first.items)

-- formula
-- the object of what was found: the counts, and the first differences of each class
unfoldable pub json_of : Findings → List ℕ
json_of f =
    class_counts Json f ++ codes ",\"differences\":[\n" ++ objects_text false f.lost.first.items
    ++ objects_text (has_kept f.lost) f.changed.first.items
    ++ objects_text (has_kept f.lost || has_kept f.changed) f.explained.first.items
    ++ codes "]}\n"

-- what is written of what was found
abbrev pub answer_text : Form → Findings → List ℕ
answer_text Lines f = lines_text f
answer_text Json f = json_of f
