-- What is written at once: the header, unless it is out, and the record of an epoch.
use Rattle.std.specs.Prelude.{ℕ, Bool, true, false, List, [], ◌++◌}
use Rattle.rtk_cut.specs.Steps.FileTexts.{FileTexts}

-- the header, unless it is out
abbrev pub header_unless : Bool → FileTexts → ℕ → List ℕ
header_unless true f first = []
header_unless false f first = f.header first

-- a text after the header with this first time, unless that is out
abbrev pub after_header : Bool → FileTexts → ℕ → List ℕ → List ℕ
after_header is_header_out f first text = header_unless is_header_out f first ++ text
