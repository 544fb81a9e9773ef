-- The arrival that a dated message is.
use Rattle.std.proofs.Common.{◌≡◌, ℕ, true, false, Option, None, Some, sym, ap, ◌∙◌}
use Rattle.std.specs.Option.{is_some}
use Rattle.rtk_message.specs.declared.any_message.AnyMessage.{AnyMessage as Message}
use Rattle.rtk_message.specs.AnyDecoded.{tow_of}
use Rattle.rtk_collect.specs.Arrival.{Arrival, At}

pub dated-without : (o : Option ℕ) (n m : Message) (a : Arrival) → n ≡ m → is_some o ≡ is_some (tow_of n) → is_some (tow_of m) ≡ false → At o n ≡ a → At None m ≡ a
dated-without None n m a e s f v = ap (At None) (sym e) ∙ v
dated-without (Some x) n m a e s f v = let q : true ≡ false = s ∙ ap (λ t. is_some (tow_of t)) e ∙ f in cc
