-- With which message bits begin, if its number was read before them.
use Rattle.std.specs.Prelude.{◌≡◌, ℕ, Bool, List, ◌++◌}
use Rattle.rtk_message.specs.declared.any_message.AnyMessage.{AnyMessage}
use Rattle.rtk_message.specs.Fields.{bits_of_fields}
use Rattle.rtk_message.specs.AnyDecoded.{number_of, fields_after_number, IsValid}

-- the bits after this number begin with the fields of a valid message that has it
pub record BeginsAfterAnyNumber (number : ℕ) (bs : List Bool) (m : AnyMessage) : Type 0 where
  pub has_number : number_of m ≡ number
  pub valid : IsValid m
  pub begins : (rest : List Bool) × (bs ≡ bits_of_fields (fields_after_number m) ++ rest)
