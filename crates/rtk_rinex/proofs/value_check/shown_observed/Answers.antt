use Rattle.std.proofs.Common.{◌≡◌, ◌∙◌, refl, sym, ap, ℕ, List, take, drop}
use Rattle.rtk_rinex.specs.Record.{observation, strength_digit}
use Rattle.rtk_rinex.proofs.CellLemmas.{has-columns, lock-digit, strength-same}
use Rattle.rtk_rinex.proofs.value_check.shown_observed.Goals as goal

pub returns-in_err-strength : goal.returns-in_err-strength
returns-in_err-strength c =
    rw c.from_residual.ensures (λ o h e.
    let p = has-columns c.args.columns.now o h e in
    c.in_err-strength.ensures o.strength_millidbhz h.strength (c.split_at-2.ensures.back ∙ ap (λ (xs : List ℕ). drop 16 xs) c.split_at.ensures.back ∙ p.strength))

pub returns-in_err-slip : goal.returns-in_err-slip
returns-in_err-slip c =
    rw c.from_residual-in_err-slip.ensures (λ o h e.
    let p = has-columns c.args.columns.now o h e in
    let phase = c.split_at-2.ensures.front ∙ ap (λ (xs : List ℕ). take 16 xs) c.split_at.ensures.back ∙ p.phase in
    c.in_err-slip.ensures o.slip o.half (lock-digit c.split_at-2.result.0.now o.phase_millicycles o.slip o.half (strength_digit o.strength_millidbhz) h.phase h.lock phase))

pub returns-in_err-range_mm : goal.returns-in_err-range_mm
returns-in_err-range_mm c =
    rw c.from_residual-in_err-range_mm.ensures (λ o h e.
    let p = has-columns c.args.columns.now o h e in
    let digit : c.digit_of_strength-digit.result ≡ strength_digit o.strength_millidbhz = c.digit_of_strength-digit.ensures
    ∙ ap strength_digit (strength-same c.split_at-2.result.1.now c.in_ok-strength.strength o.strength_millidbhz c.in_ok-strength.ensures.0 h.strength c.in_ok-strength.ensures.1
    (c.split_at-2.ensures.back ∙ ap (λ (xs : List ℕ). drop 16 xs) c.split_at.ensures.back ∙ p.strength)) in
    c.in_err-range_mm.ensures o.range_mm h.range (c.split_at.ensures.front ∙ p.range ∙ ap (λ (d : ℕ). observation o.range_mm 32 d) (sym digit)))

pub returns-in_err-phase_millicycles : goal.returns-in_err-phase_millicycles
returns-in_err-phase_millicycles c =
    rw c.from_residual-in_err-phase_millicycles.ensures (λ o h e.
    let p = has-columns c.args.columns.now o h e in
    let digit : c.digit_of_strength-digit.result ≡ strength_digit o.strength_millidbhz = c.digit_of_strength-digit.ensures
    ∙ ap strength_digit (strength-same c.split_at-2.result.1.now c.in_ok-strength.strength o.strength_millidbhz c.in_ok-strength.ensures.0 h.strength c.in_ok-strength.ensures.1
    (c.split_at-2.ensures.back ∙ ap (λ (xs : List ℕ). drop 16 xs) c.split_at.ensures.back ∙ p.strength)) in
    let phase = c.split_at-2.ensures.front ∙ ap (λ (xs : List ℕ). take 16 xs) c.split_at.ensures.back ∙ p.phase in
    let lock = lock-digit c.split_at-2.result.0.now o.phase_millicycles o.slip o.half (strength_digit o.strength_millidbhz) h.phase h.lock phase in
    c.in_err-phase_millicycles.ensures o.phase_millicycles h.phase (phase ∙ (rw (lock, digit) refl)))
