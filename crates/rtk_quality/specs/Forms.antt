-- Numbers, moments and names in three forms: in a table, in lines, each of which begins with a keyword, and
-- in JSON with whole numbers (this project's rule).
use Rattle.std.specs.Prelude.{ℕ, ◌-◌, ◌/◌, ◌%◌, ◌==◌, ◌||◌, List, [], ◌∷◌, ◌++◌, length, replicate, flat_map, codes, decimal, Option, None, Some, if◌then◌else◌}
use Rattle.rtk_obs.specs.declared.time.Civil.{Civil}
use Rattle.rtk_obs.specs.CivilText.{civil_text, last_digits}
use Rattle.rtk_quality.specs.declared.form.Form.{Form}
use Rattle.rtk_quality.specs.declared.form.Form.TheVariants.{Table, Lines, Json}
use Rattle.rtk_quality.specs.declared.form.Decimals.TheVariants.{Whole, Tenths, Hundredths, Thousandths}
use Rattle.rtk_quality.specs.declared.form.Decimals.{Decimals}

-- a text in a table or a line, and another one in JSON
abbrev pub in_form : Form → List ℕ → List ℕ → List ℕ
in_form Table line json = line
in_form Lines line json = line
in_form Json line json = json

-- formula
-- a text at the right end of a column: blanks stand before it, if it is not wider
abbrev pub padded : ℕ → List ℕ → List ℕ
padded width text = replicate (width - length text) 32 ++ text

-- formula
-- a value of the heading of a table: it ends in column 43 of its line, whose words begin with a line end
abbrev pub lined_up : List ℕ → List ℕ → List ℕ
lined_up words value = words ++ padded (44 - length words) value

-- in the heading of a table a value is lined up
abbrev pub in_heading : Form → List ℕ → List ℕ → List ℕ → List ℕ
in_heading Table words value json = lined_up words value
in_heading Lines words value json = words ++ value
in_heading Json words value json = json

-- formula
-- a number of such units with its decimal point
abbrev pub point_text : Decimals → ℕ → List ℕ
point_text Whole n = decimal n
point_text Tenths n = decimal (n / 10) ++ 46 ∷ last_digits 1 (n % 10)
point_text Hundredths n = decimal (n / 100) ++ 46 ∷ last_digits 2 (n % 100)
point_text Thousandths n = decimal (n / 1000) ++ 46 ∷ last_digits 3 (n % 1000)

-- in lines a number is decimal, and a hyphen if there is none
abbrev pub line_number : Decimals → Option ℕ → List ℕ
line_number decimals None = codes "-"
line_number decimals (Some n) = point_text decimals n

-- in JSON a number is whole, and null if there is none
abbrev pub json_number : Option ℕ → List ℕ
json_number None = codes "null"
json_number (Some n) = decimal n

-- formula
-- a number after its words in the heading of a table or in a line, or after its key
unfoldable pub value_text : Form → List ℕ → List ℕ → Decimals → Option ℕ → List ℕ
value_text form words key decimals n = in_heading form words (line_number decimals n) (key ++ json_number n)

-- formula
-- a moment after its words in the heading of a table or in a line, or after its key, in quotes
unfoldable pub moment_text : Form → List ℕ → List ℕ → Civil → List ℕ
moment_text form words key reading = in_heading form words (civil_text reading) (key ++ 34 ∷ civil_text reading ++ 34 ∷ [])

-- formula
-- a name after a blank in a line, or after its key and a quote
unfoldable pub name_text : Form → List ℕ → List ℕ → List ℕ
name_text form key name = in_form form (32 ∷ name) (key ++ name ++ 34 ∷ [])

-- formula
-- the start of a line, which is its keyword, or of the object that stands for the line
unfoldable pub start_text : Form → List ℕ → List ℕ
start_text form keyword = in_form form keyword (codes ",\n{")

-- the end of a line, or of its object
abbrev pub end_text : Form → List ℕ
end_text form = in_form form (codes "\n") (codes "}")

-- table
-- a character of a text in JSON: a backslash stands before a quote and before a backslash
abbrev pub json_character : ℕ → List ℕ
json_character x = if x == 34 || x == 92 then 92 ∷ x ∷ [] else x ∷ []

-- formula
-- a text of characters from blank to tilde as JSON has it between quotes (RFC 8259, section 7)
unfoldable pub json_text : List ℕ → List ℕ
json_text text = flat_map json_character text
