-- The table of codes holds what its definition says.
use Rattle.std.proofs.Common.{◌≡◌, ℕ, zero, suc, ◌+◌, ◌<◌, List, [], ◌∷◌, Option, get_or, refl, sym, subst, arith}
use Rattle.rtk_obs.specs.declared.code.Code.{Code}
use Rattle.rtk_obs.specs.declared.msm_rows.TheConstants.{SIGNAL_CODES}
use Rattle.rtk_obs.specs.MsmCells.{code_of_signal}

-- the codes of n signals from k on
codes_from : ℕ → ℕ → List (Option Code)
codes_from k zero = []
codes_from k (suc n) = code_of_signal k ∷ codes_from (suc k) n

code-at : (k n i : ℕ) (d : Option Code) → i < n → get_or (codes_from k n) i d ≡ code_of_signal (k + i)
unfolding codes_from
code-at k zero i d inside = absurd (omega arith)
code-at k (suc n) zero d inside =
    let e : k + 0 ≡ k = omega arith in
    rw e refl
code-at k (suc n) (suc i) d inside =
    let e : k + suc i ≡ suc k + i = omega arith in
    rw e (code-at (suc k) n i d (omega arith))

table-holds : SIGNAL_CODES ≡ codes_from 0 33
unfolding codes_from
table-holds = refl

pub signal-code : (i : ℕ) (d : Option Code) → i < 33 → get_or SIGNAL_CODES i d ≡ code_of_signal i
signal-code i d inside =
    let e : 0 + i ≡ i = omega arith in
    subst (λ (ts : List (Option Code)). get_or ts i d ≡ code_of_signal i) (sym table-holds) (rw e at (code-at 0 33 i d inside))
