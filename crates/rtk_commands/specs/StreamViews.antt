-- What a clause sees of a reader or a writer of the program: all its fields.
use Rattle.std.specs.Prelude.{ℕ, Bool, refl}
use Rattle.std.specs.Coded.{Coded, code_by, coded×, coded_ℕ, coded_bool}

-- a source: the reader behind and its number, how many calls failed and were made, and whether it
-- has met its end
pub record ReadsView (R : Type 0) : Type 0 where
  pub inner : R
  pub number : ℕ
  pub failed : ℕ
  pub made : ℕ
  pub ended : Bool

-- how the logic stores it
abbrev pub reads_view_code : {R : Type 0} → Coded R → Coded (ReadsView R)
reads_view_code {R} code =
    code_by (R × (ℕ × (ℕ × (ℕ × Bool)))) (coded× code (coded× coded_ℕ (coded× coded_ℕ (coded× coded_ℕ coded_bool))))
    (λ s. (s.inner, (s.number, (s.failed, (s.made, s.ended)))))
    (λ p. record { inner = p.0; number = p.1.0; failed = p.1.1.0; made = p.1.1.1.0; ended = p.1.1.1.1 }) (λ _. refl)

-- a sink: the writer behind and its number, and how many calls failed
pub record WritesView (W : Type 0) : Type 0 where
  pub inner : W
  pub number : ℕ
  pub failed : ℕ

-- how the logic stores it
abbrev pub writes_view_code : {W : Type 0} → Coded W → Coded (WritesView W)
writes_view_code {W} code =
    code_by (W × (ℕ × ℕ)) (coded× code (coded× coded_ℕ coded_ℕ))
    (λ s. (s.inner, (s.number, s.failed))) (λ p. record { inner = p.0; number = p.1.0; failed = p.1.1 }) (λ _. refl)

-- a reader or a writer whose interrupted calls are made again: the one behind
pub record ResumedView (T : Type 0) : Type 0 where
  pub inner : T

-- how the logic stores it
abbrev pub resumed_view_code : {T : Type 0} → Coded T → Coded (ResumedView T)
resumed_view_code {T} code = code_by T code (λ r. r.inner) (λ x. record { inner = x }) (λ _. refl)
