-- One field taken from bits, and fields put after them.
use Rattle.std.specs.Prelude.{◌≡◌, Bool, List, ◌++◌, map}
use Rattle.rtk_message.specs.Fields.{Field, field_bits, FieldFits, bits_of_fields, TakesAll}

-- the bits begin with this field, which fits its width, and `left` are the bits after it
pub record TakesField (f : Field) (from left : List Bool) : Type 0 where
  pub fits : FieldFits f
  pub is : from ≡ field_bits f ++ left

-- a field was put after the bits
pub record Puts (f : Field) (before after : List Bool) : Type 0 where
  pub is : after ≡ before ++ field_bits f

-- fields were put after the bits
pub record PutsAll (fs : List Field) (before after : List Bool) : Type 0 where
  pub is : after ≡ before ++ bits_of_fields fs

-- bits that were the fields of the first values and then `old` are the fields of the second values
-- and then `new`
abbrev pub TakesMore : {X : Type 0} → (X → Field) → List X → List X → List Bool → List Bool → Type 0
TakesMore field first second old new = (from : List Bool) → TakesAll (map field first) from old → TakesAll (map field second) from new
