-- Numbers in the columns of a table (this project's rule).
use Rattle.std.specs.Prelude.{ℕ, ◌-◌, List, ◌∷◌, flat_map, Option}
use Rattle.rtk_quality.specs.Forms.{padded, line_number}
use Rattle.rtk_quality.specs.declared.form.Decimals.{Decimals}
use Rattle.rtk_quality.specs.declared.columns.Cell.{Cell}

-- a number of such units in a column of this width
abbrev pub column : ℕ → Decimals → Option ℕ → Cell
column width decimals number = record { width = width; decimals = decimals; number = number }

-- a number at the right end of its column, behind a blank at least
abbrev pub cell_text : Cell → List ℕ
cell_text c = 32 ∷ padded (c.width - 1) (line_number c.decimals c.number)

-- numbers in their columns
unfoldable pub cells_text : List Cell → List ℕ
cells_text cells = flat_map cell_text cells
