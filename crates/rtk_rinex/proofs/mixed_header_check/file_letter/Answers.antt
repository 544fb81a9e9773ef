use Rattle.std.proofs.Common.{◌≡◌, ◌∙◌, ℕ, true, false, ◌==◌, codes, sym}
use Rattle.std.specs.List.{list_any}
use Rattle.rtk_rinex.proofs.SystemsReadLemmas.{at_file}
use Rattle.rtk_rinex.proofs.mixed_header_check.file_letter.Goals as goal

-- a byte that is none of the letters
abbrev IsOther : ℕ → Type 0
IsOther l = list_any (λ y. y == l) (codes "GRECJSIM") ≡ false → 77 ≡ l

clash : (l : ℕ) → true ≡ false → 77 ≡ l
clash l e = absurd cc

pub returns-else-contains-clause-same : goal.returns-else-contains-clause-same
returns-else-contains-clause-same c = λ good.
    at_file IsOther c.args.byte good.0 good.1 good.2 (clash 71) (clash 82) (clash 69) (clash 67) (clash 74) (clash 83) (clash 73) (clash 77) (sym c.contains.ensures.value ∙ c.if-contains.false)
