-- Fields, their bits, and what it is to take fields from bits.
-- Source: RTCM 10403.3, data types and DF004
use Rattle.std.specs.Prelude.{◌≡◌, ℕ, ℤ, pos, ◌<◌, ◌^◌, Bool, false, List, [], ◌∷◌, ◌++◌, take, drop}
use Rattle.std.specs.List.{AllByRecursion}
use Rattle.rtk_bits.specs.Bits.{bits_of, unsigned, signed_bits_of, FitsSigned}

-- a field: a width with an unsigned or a two's complement value, or one bit
pub data Field : Type 0 where
  u : ℕ → ℕ → Field
  i : ℕ → ℤ → Field
  flag : Bool → Field

-- the bits of a field, the most significant first
abbrev pub field_bits : Field → List Bool
field_bits (u w n) = bits_of w n
field_bits (i w z) = signed_bits_of w z
field_bits (flag b) = b ∷ []

-- constant
-- the milliseconds of a week; a time of week (DF004) is less than this number
abbrev pub week_ms : ℕ
week_ms = 604_800_000

-- constant
-- the milliseconds of a day that ends with a leap second; a time of day (DF034) is less than this number
abbrev pub longest_day_ms : ℕ
longest_day_ms = 86_401_000

-- formula
-- the time of week (DF004) in the bits after the number of a message with observations: the 30 bits
-- after the station
abbrev pub tow_in : List Bool → ℕ
tow_in bs = unsigned (take 30 (drop 12 bs))

-- the value fits the width
abbrev pub FieldFits : Field → Type 0
FieldFits (u w n) = n < 2 ^ w
FieldFits (i w z) = FitsSigned w z
FieldFits (flag b) = Unit {0}

-- the value is 0, or the bit is not set (this project's rule)
abbrev pub FieldIsZero : Field → Type 0
FieldIsZero (u w n) = n ≡ 0
FieldIsZero (i w z) = z ≡ pos 0
FieldIsZero (flag b) = b ≡ false

-- each field is 0 (this project's rule)
abbrev pub FieldsAreZero : List Field → Type 0
FieldsAreZero fs = AllByRecursion FieldIsZero fs

-- the concatenated fields
abbrev pub bits_of_fields : List Field → List Bool
bits_of_fields [] = []
bits_of_fields (f ∷ fs) = field_bits f ++ bits_of_fields fs

-- each field fits its width
abbrev pub FieldsFit : List Field → Type 0
FieldsFit fs = AllByRecursion FieldFits fs

-- the bits begin with these fields, each of which fits its width, and `left` are the bits after
-- them (this project's rule)
pub record TakesAll (fs : List Field) (from left : List Bool) : Type 0 where
  pub fit : FieldsFit fs
  pub is : from ≡ bits_of_fields fs ++ left
