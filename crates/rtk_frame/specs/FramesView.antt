-- The frames of a text as their contracts see them.
use Rattle.std.specs.Prelude.{ℕ, List, refl}
use Rattle.std.specs.Coded.{Coded, code_by, coded×, coded_list, coded_ℕ}

-- the text, and the place from which on its next frame is looked for
pub record FramesView : Type 0 where
  pub text : List ℕ
  pub from : ℕ

-- the frames of a text from a place on
abbrev pub frames_view : List ℕ → ℕ → FramesView
frames_view text from = record { text = text; from = from }

-- how the logic stores it
abbrev pub frames_view_code : Coded FramesView
frames_view_code = code_by (List ℕ × ℕ) (coded× (coded_list coded_ℕ) coded_ℕ) (λ s. (s.text, s.from)) (λ p. frames_view p.0 p.1) (λ _. refl)
