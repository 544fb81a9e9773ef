-- Captures that are written as bytes or as hex text (this project's rule).
use Rattle.std.specs.Prelude.{ℕ, Bool, true, false, not, ◌||◌, ◌==◌, List, filter, Option, Some}
use Rattle.std.specs.Result.{result_ok}
use Rattle.hex.specs.Hex.{decode_of}

-- formula
-- a blank, a tab, a carriage return or a line feed
abbrev pub is_white_space : ℕ → Bool
is_white_space byte = (byte == 32) || (byte == 9) || (byte == 13) || (byte == 10)

-- formula
-- the bytes of a hex text: without blanks, tabs and line ends it is pairs of hex digits, a pair for
-- each byte; none if it is not
abbrev pub bytes_of_hex : List ℕ → Option (List ℕ)
bytes_of_hex text = result_ok (decode_of (filter (λ byte. not (is_white_space byte)) text))

-- the capture that an input is: its bytes, or, if it is hex text, the bytes that it stands for
abbrev pub capture_of : Bool → List ℕ → Option (List ℕ)
capture_of false text = Some text
capture_of true text = bytes_of_hex text
