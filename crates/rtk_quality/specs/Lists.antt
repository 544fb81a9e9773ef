-- Lists of entries in the three forms (this project's rule).
use Rattle.std.specs.Prelude.{ℕ, ◌-◌, nat_lt, List, [], ◌∷◌, ◌++◌, flat_map, codes, decimal, if◌then◌else◌}
use Rattle.rtk_quality.specs.declared.form.Form.{Form}
use Rattle.rtk_quality.specs.declared.form.Form.TheVariants.{Table, Lines, Json}

-- what stands before the entries: a heading in a table, and a key in JSON
abbrev pub opening : Form → List ℕ → List ℕ → List ℕ
opening Table heading key = heading
opening Lines heading key = []
opening Json heading key = key

-- formula
-- a list whose entries follow its first text: in a table no list is empty, and in JSON, where a comma stands
-- before each entry, the first comma is left out, and an empty array has no line end
abbrev pub closed : Form → List ℕ → List ℕ → List ℕ
closed Table first [] = []
closed Table first (x ∷ xs) = first ++ x ∷ xs
closed Lines first entries = first ++ entries
closed Json first [] = first ++ codes "]"
closed Json first (x ∷ xs) = first ++ xs ++ codes "\n]"

-- a list of entries, with its heading in a table, and its key in JSON
unfoldable pub list_text : Form → List ℕ → List ℕ → List ℕ → List ℕ
list_text form heading key entries = closed form (opening form heading key) entries

-- formula
-- in a table a list of ten ends with how many more there are
abbrev pub more_text : Form → ℕ → List ℕ
more_text Table n = if nat_lt 10 n then codes "and " ++ decimal (n - 10) ++ codes " more\n" else []
more_text Lines n = []
more_text Json n = []

-- a list of the largest of so many things
unfoldable pub largest_text : {T : Type 0} → (Form → T → List ℕ) → Form → List ℕ → List ℕ → ℕ → List T → List ℕ
largest_text entry form heading key n xs = list_text form heading key (flat_map (entry form) xs ++ more_text form n)
