-- The Doppler shifts of the codes of a system, of which a file with Doppler shifts tells how many there are (this
-- project's rule).
use Rattle.std.specs.Prelude.{ℕ, Bool, true, false, List, [], ◌∷◌, ◌++◌, codes, Option, Some}
use Rattle.rtk_obs.specs.declared.any_code.AnyCode.{AnyCode}
use Rattle.rtk_obs.specs.AnyCode.{name_of}
use Rattle.rtk_rinex.specs.Record.{EpochTableView}
use Rattle.rtk_quality.specs.Columns.{column, cells_text}
use Rattle.rtk_quality.specs.Entries.{in_table}
use Rattle.rtk_quality.specs.Forms.{value_text, start_text, end_text}
use Rattle.rtk_quality.specs.LineText.{title_text}
use Rattle.rtk_quality.specs.Lists.{list_text}
use Rattle.rtk_quality.specs.Quality.{totals_of}
use Rattle.rtk_quality.specs.QualityText.{each_code}
use Rattle.rtk_quality.specs.declared.form.Form.{Form}
use Rattle.rtk_quality.specs.declared.form.Decimals.TheVariants.{Whole}

-- table
-- the row of a code
unfoldable pub shift_row : AnyCode → ℕ → List ℕ
shift_row code n = codes "all " ++ name_of code ++ cells_text (column 8 Whole (Some n) ∷ []) ++ codes "\n"

-- table
-- the line of a code
unfoldable pub shift_line : Form → AnyCode → ℕ → List ℕ
shift_line form code n =
    start_text form (codes "doppler") ++ title_text form code ++ value_text form (codes " values ") (codes ",\"values\":") Whole (Some n) ++ end_text form

unfoldable pub shift_entry : Form → AnyCode → ℕ → List ℕ
shift_entry form code n = in_table form (shift_row code n) (shift_line form code n)

-- table
-- the heading of the columns
abbrev pub shifts_heading : List ℕ
shifts_heading = codes "\nsignal doppler\n"

-- formula
-- how many Doppler shifts each code has, over all satellites
unfoldable pub shifts_text : Form → List AnyCode → ℕ → Option ℕ → List EpochTableView → List ℕ
shifts_text form listed most interval es =
    list_text form shifts_heading (codes ",\n\"doppler\":[")
    (each_code (λ place code. shift_entry form code (totals_of most interval es place).counts.shifts) 0 listed)

-- a file without Doppler shifts has no such list
abbrev pub shifts_part : Bool → Form → List AnyCode → ℕ → Option ℕ → List EpochTableView → List ℕ
shifts_part false form listed most interval es = []
shifts_part true form listed most interval es = shifts_text form listed most interval es
