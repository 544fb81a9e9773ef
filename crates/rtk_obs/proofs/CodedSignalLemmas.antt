-- The codes of the signals of a message: those of GPS are codes of any system.
use Rattle.std.proofs.Common.{◌≡◌, ◌∙◌, ℕ, ◌<◌, zero, suc, List, [], ◌∷◌, length, map, get_or, Option, Some, None, refl, sym, ap, arith}
use Rattle.std.specs.Prelude.{option_map}
use Rattle.rtk_obs.specs.declared.any_code.AnyCode.{AnyCode}
use Rattle.rtk_obs.specs.declared.code.Code.{Code}
use Rattle.rtk_obs.specs.AnyCode.{code_of_gps}
use Rattle.rtk_obs.specs.MsmCells.{code_of_signal}
use Rattle.rtk_obs.specs.Signals.{gps_code}
use Rattle.rtk_obs.proofs.SignalEntryLemmas.{gps-code}

-- a signal of GPS that has a code of any system has one of GPS
module _ {Q : Type 0} (n : ℕ) (code : AnyCode) (h : gps_code n ≡ Some code) (then : (d : Code) → code_of_signal n ≡ Some d → code_of_gps d ≡ code → Q) where
  by-code : (o : Option Code) → code_of_signal n ≡ o → Q
  by-code None is =
      let none : None ≡ Some code = sym (gps-code n ∙ ap (λ (x : Option Code). option_map code_of_gps x) is) ∙ h in
      absurd cc
  by-code (Some d) is =
      let same : Some (code_of_gps d) ≡ Some code = sym (gps-code n ∙ ap (λ (x : Option Code). option_map code_of_gps x) is) ∙ h in
      then d is cc

  pub with-code : Q
  with-code = by-code (code_of_signal n) refl

-- and one that has none of any system has none of GPS
none-mapped : (o : Option Code) → option_map code_of_gps o ≡ None → o ≡ None
none-mapped None h = refl
none-mapped (Some d) h = absurd cc

pub without-code : (n : ℕ) → gps_code n ≡ None → code_of_signal n ≡ None
without-code n h = none-mapped (code_of_signal n) (sym (gps-code n) ∙ h)

-- ---- the signals of a list of identifiers

pub get-mapped : {X Y : Type 0} (f : X → Y) (xs : List X) (k : ℕ) (d : X) (e : Y) → k < length xs → get_or (map f xs) k e ≡ f (get_or xs k d)
get-mapped f [] k d e inside = absurd (omega (arith, inside))
get-mapped f (x ∷ xs) zero d e inside = refl
get-mapped f (x ∷ xs) (suc k) d e inside = get-mapped f xs k d e (omega (arith, inside))
