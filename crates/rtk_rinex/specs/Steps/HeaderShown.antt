-- What the columns of a part of a header show, from the part's beginning on. It counts only if the
-- part's own text equals those columns.
use Rattle.std.specs.Prelude.{◌≡◌, ◌≢◌, ℕ, ◌+◌, ◌*◌, ◌/◌, ◌%◌, List, ◌++◌, length, take, drop, AllPairs, Contains}
use Rattle.rtk_obs.specs.declared.code.Code.{Code}
use Rattle.rtk_obs.specs.declared.time.Civil.{Civil}
use Rattle.rtk_rinex.specs.Steps.Digits.{digits_from}

-- the text begins with these bytes
abbrev pub StartsWith : List ℕ → List ℕ → Type 0
StartsWith front text = (rest : List ℕ) × (text ≡ front ++ rest)

-- the line after k lines of 81 bytes
abbrev pub line_at : ℕ → List ℕ → List ℕ
line_at k text = take 81 (drop (81 * k) text)

-- the name of the code after i codes, read from its type of pseudorange; each code has three types,
-- of which thirteen stand on a line
abbrev pub name_at : ℕ → List ℕ → List ℕ
name_at i text = take 2 (drop (8 + 4 * (3 * i % 13)) (line_at (3 * i / 13) text))

-- the number in columns of a text
abbrev pub number_at : ℕ → ℕ → List ℕ → ℕ
number_at from width text = digits_from 0 (take width (drop from text))

-- the date and time in the line of the moment at which the file is made
abbrev pub made_civil : List ℕ → Civil
made_civil text =
    record {
      year = number_at 40 4 text;
      month = number_at 44 2 text;
      day = number_at 46 2 text;
      hour = number_at 49 2 text;
      minute = number_at 51 2 text;
      second = number_at 53 2 text;
      millisecond = 0;
    }

-- the date and time in the line of the first observation, whose seconds are F13.7
abbrev pub first_civil : List ℕ → Civil
first_civil text =
    record {
      year = number_at 2 4 text;
      month = number_at 10 2 text;
      day = number_at 16 2 text;
      hour = number_at 22 2 text;
      minute = number_at 28 2 text;
      second = number_at 30 13 text / 10_000_000;
      millisecond = number_at 30 13 text / 10_000 % 1000;
    }

-- all sixteen codes, each once
pub record AreAllCodes (all : List Code) : Type 0 where
  pub length : length all ≡ 16
  pub distinct : AllPairs (λ a b. a ≢ b) all
  pub every : (c : Code) → Contains all c
