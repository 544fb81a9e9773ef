-- The systems by their letters: how many codes they have, and how many lines their observation types
-- fill.
use Rattle.std.specs.Prelude.{ℕ, Bool, true, false, ◌+◌, ◌*◌, ◌/◌, ◌==◌, if◌then◌else◌, codes, Contains}

-- G, R, E, C, J, S or I
abbrev pub IsSystemLetter : ℕ → Type 0
IsSystemLetter l = Contains (codes "GRECJSI") l

-- the letter of a system, or M for several systems
abbrev pub IsFileLetter : ℕ → Type 0
IsFileLetter l = Contains (codes "GRECJSIM") l

-- how many codes the system of a letter has
abbrev pub codes_of_letter : ℕ → ℕ
codes_of_letter l = if l == 71 then 16 else if l == 82 then 4 else if l == 69 then 15 else if l == 67 then 16 else if l == 74 then 13 else if l == 83 then 4 else 1

-- how many codes stand before those of the system of a letter
abbrev pub codes_before_letter : ℕ → ℕ
codes_before_letter l = if l == 71 then 0 else if l == 82 then 16 else if l == 69 then 20 else if l == 67 then 35 else if l == 74 then 51 else if l == 83 then 64 else 68

-- thirteen types of four columns stand on a line, and n codes have 3 n types, or 4 n with Doppler shifts
abbrev pub types_line_count : Bool → ℕ → ℕ
types_line_count false n = (12 * n + 51) / 52
types_line_count true n = (16 * n + 51) / 52

-- the lines of the observation types of all systems are at most 18, or 24 with Doppler shifts, of 81 characters
abbrev pub all_types_room : Bool → ℕ
all_types_room false = 1458
all_types_room true = 1944
