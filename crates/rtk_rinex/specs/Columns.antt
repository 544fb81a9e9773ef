-- Numbers and texts in columns, by the formats of RINEX 3.05, Tables A2 and A3: Fw.d, Iw, Aw.
-- Source: RINEX 3.05, Tables A2 and A3
use Rattle.std.specs.Prelude.{◌≢◌, ◌≤◌, ℕ, ◌+◌, ◌*◌, ◌-◌, ◌/◌, ◌^◌, List, ◌∷◌, ◌++◌, length, replicate, ℤ, pos, negsuc, unsigned_abs, Bool, true, false, decimal, All, slice_get, Some}
use Rattle.std.specs.Int.{IsInRange}
use Rattle.std.specs.Fmt.{sign_text}
use Rattle.rtk_obs.specs.CivilText.{last_digits}
use Rattle.rtk_obs.specs.declared.time.Civil.{Civil}

-- formula
-- a text at the right end of w columns, after blanks (Iw of a number's digits)
abbrev pub right : ℕ → List ℕ → List ℕ
right w text = replicate (w - length text) 32 ++ text

-- formula
-- a text at the left end of w columns, before blanks (Aw)
unfoldable pub left : ℕ → List ℕ → List ℕ
left w text = text ++ replicate (w - length text) 32

-- formula
-- a text that is read in w columns again (Aw): no more characters than columns, each from blank to
-- tilde, the first and the last no blank; without a character the columns are blank (this project's
-- rule)
abbrev pub IsField : ℕ → List ℕ → Type 0
IsField w text =
    (length text ≤ w) × All (λ x. IsInRange 32 126 x) text
    × (slice_get text 0 ≢ Some 32) × (slice_get text (length text - 1) ≢ Some 32)

abbrev pub is_negative : ℤ → Bool
is_negative (pos n) = false
is_negative (negsuc n) = true

-- formula
-- a sign and a number of units of 10^-k: k decimals, and at least one digit before the point
abbrev pub decimals : ℕ → Bool → ℕ → List ℕ
decimals k negative n = sign_text negative ++ decimal (n / 10 ^ k) ++ 46 ∷ last_digits k n

-- formula
-- a number of units of 10^-k with k decimals, at the right end of w columns (Fw.k)
abbrev pub fixed : ℕ → ℕ → ℤ → List ℕ
fixed k w v = right w (decimals k (is_negative v) (unsigned_abs v))

-- formula
-- the seconds of a reading in units of 10^-7 s
abbrev pub seconds_of : Civil → ℕ
seconds_of c = c.second * 10_000_000 + c.millisecond * 10_000
