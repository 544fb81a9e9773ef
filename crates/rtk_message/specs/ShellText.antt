-- The name of a file as sh takes it (this project's rule; POSIX.1-2017, Shell Command Language, 2.2.2).
use Rattle.std.specs.Prelude.{ℕ, ◌==◌, Bool, ◌&&◌, ◌||◌, nat_le, nat_lt, List, [], ◌∷◌, ◌++◌, length, flat_map, get_or, codes, if◌then◌else◌}
use Rattle.std.specs.List.{list_all}

-- constant
-- a letter or a digit
abbrev pub is_alphanumeric : ℕ → Bool
is_alphanumeric byte =
    (nat_le 48 byte && nat_le byte 57) || ((nat_le 65 byte && nat_le byte 90) || (nat_le 97 byte && nat_le byte 122))

-- constant
-- one of % + , - . /
abbrev pub is_plain_mark : ℕ → Bool
is_plain_mark byte = (byte == 37) || ((byte == 43) || (nat_le 44 byte && nat_le byte 47))

-- constant
-- one of : = @ _
abbrev pub is_other_mark : ℕ → Bool
is_other_mark byte = (byte == 58) || ((byte == 61) || ((byte == 64) || (byte == 95)))

-- sh takes a word of these as it stands
abbrev pub is_plain : ℕ → Bool
is_plain byte = is_alphanumeric byte || (is_plain_mark byte || is_other_mark byte)

-- constant
-- a quote ends the quoted text, stands behind a backslash, and begins it again
abbrev pub quoted_byte : ℕ → List ℕ
quoted_byte byte = if byte == 39 then 39 ∷ 92 ∷ 39 ∷ 39 ∷ [] else byte ∷ []

-- formula
-- in quotes
abbrev pub quoted : List ℕ → List ℕ
quoted name = codes "'" ++ flat_map quoted_byte name ++ codes "'"

-- formula
-- as it stands, or in quotes
abbrev pub quoted_if_needed : List ℕ → List ℕ
quoted_if_needed name = if nat_lt 0 (length name) && list_all is_plain name then name else quoted name

-- constant
-- a name that begins with a hyphen would be taken for an option
abbrev pub folder_before : List ℕ → List ℕ
folder_before name = if nat_lt 0 (length name) && (get_or name 0 0 == 45) then codes "./" else []

-- formula
-- the name of a file as sh takes it
unfoldable pub sh_quoted : List ℕ → List ℕ
sh_quoted name = folder_before name ++ quoted_if_needed name
