-- A scanner as its contracts see it.
use Rattle.std.specs.Prelude.{ℕ, Bool, List, refl}
use Rattle.std.specs.Coded.{Coded, code_by, coded×, coded_list, coded_ℕ, coded_bool}

-- the bytes that wait for more or for the next call, and whether the stream has ended
pub record ScannerView : Type 0 where
  pub pending : List ℕ
  pub ended : Bool

-- a scanner with these bytes pending
abbrev pub scanner_view : List ℕ → Bool → ScannerView
scanner_view pending ended = record { pending = pending; ended = ended }

-- how the logic stores it
abbrev pub scanner_view_code : Coded ScannerView
scanner_view_code = code_by (List ℕ × Bool) (coded× (coded_list coded_ℕ) coded_bool) (λ s. (s.pending, s.ended)) (λ p. scanner_view p.0 p.1) (λ _. refl)
