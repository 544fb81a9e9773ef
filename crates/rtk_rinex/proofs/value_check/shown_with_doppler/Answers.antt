use Rattle.std.proofs.Common.{◌≡◌, ◌∙◌, refl, sym, ap, ℕ, List, ◌++◌, take, drop, append_assoc}
use Rattle.rtk_rinex.specs.declared.epoch_table.Observed.{Observed}
use Rattle.rtk_rinex.specs.Record.{observation, observations_with_doppler, strength_digit, lli_digit, strength_value}
use Rattle.rtk_rinex.specs.Table.{IsObservedWithDoppler}
use Rattle.rtk_rinex.proofs.DigitsLemmas.{take-exact, drop-exact}
use Rattle.rtk_rinex.proofs.ValuesLemmas.{length-observation}
use Rattle.rtk_rinex.proofs.CellLemmas.{lock-digit, strength-same}
use Rattle.rtk_rinex.proofs.value_check.shown_with_doppler.Goals as goal

-- the columns of the four observations of a code
record HasFour (columns : List ℕ) (o : Observed) : Type 0 where
  pub range : take 16 columns ≡ observation o.range_mm 32 (strength_digit o.strength_millidbhz)
  pub phase : take 16 (drop 16 columns) ≡ observation o.phase_millicycles (lli_digit o.slip o.half) (strength_digit o.strength_millidbhz)
  pub shift : take 16 (drop 16 (drop 16 columns)) ≡ observation o.doppler_millihertz 32 32
  pub strength : drop 16 (drop 16 (drop 16 columns)) ≡ observation (strength_value o.strength_millidbhz) 32 32

has-four : (columns : List ℕ) (o : Observed) → IsObservedWithDoppler o → columns ≡ observations_with_doppler o → HasFour columns o
has-four columns o h e =
    let digit = strength_digit o.strength_millidbhz in
    let lli = lli_digit o.slip o.half in
    let a : List ℕ = observation o.range_mm 32 digit in
    let b : List ℕ = observation o.phase_millicycles lli digit in
    let c : List ℕ = observation o.doppler_millihertz 32 32 in
    let d : List ℕ = observation (strength_value o.strength_millidbhz) 32 32 in
    let a16 = length-observation o.range_mm 32 digit h.range in
    let b16 = length-observation o.phase_millicycles lli digit h.phase in
    let c16 = length-observation o.doppler_millihertz 32 32 h.doppler in
    let same : columns ≡ a ++ (b ++ (c ++ d)) = e ∙ append_assoc (a ++ b) c d ∙ append_assoc a b (c ++ d) in
    let others : drop 16 columns ≡ b ++ (c ++ d) = rw same (drop-exact 16 a (b ++ (c ++ d)) a16) in
    let last : drop 16 (drop 16 columns) ≡ c ++ d = rw others (drop-exact 16 b (c ++ d) b16) in
    record {
      range = rw same (take-exact 16 a (b ++ (c ++ d)) a16);
      phase = rw others (take-exact 16 b (c ++ d) b16);
      shift = rw last (take-exact 16 c d c16);
      strength = rw last (drop-exact 16 c d c16);
    }

back-two : (columns others last : List ℕ) → others ≡ drop 16 columns → last ≡ drop 16 others → last ≡ drop 16 (drop 16 columns)
back-two columns others last e f = f ∙ ap (λ (xs : List ℕ). drop 16 xs) e

back-three : (columns others last strength : List ℕ) → others ≡ drop 16 columns → last ≡ drop 16 others → strength ≡ drop 16 last → strength ≡ drop 16 (drop 16 (drop 16 columns))
back-three columns others last strength e f g = g ∙ ap (λ (xs : List ℕ). drop 16 xs) (back-two columns others last e f)

pub returns-in_err-strength : goal.returns-in_err-strength
returns-in_err-strength c =
    rw c.from_residual.ensures (λ o h e.
    let p = has-four c.args.columns.now o h e in
    c.in_err-strength.ensures o.strength_millidbhz h.strength (back-three c.args.columns.now _ _ _ c.split_at.ensures.back c.split_at-2.ensures.back c.split_at-3.ensures.back ∙ p.strength))

pub returns-in_err-slip : goal.returns-in_err-slip
returns-in_err-slip c =
    rw c.from_residual-in_err-slip.ensures (λ o h e.
    let p = has-four c.args.columns.now o h e in
    let phase = c.split_at-2.ensures.front ∙ ap (λ (xs : List ℕ). take 16 xs) c.split_at.ensures.back ∙ p.phase in
    c.in_err-slip.ensures o.slip o.half (lock-digit c.split_at-2.result.0.now o.phase_millicycles o.slip o.half (strength_digit o.strength_millidbhz) h.phase h.lock phase))

pub returns-in_err-range_mm : goal.returns-in_err-range_mm
returns-in_err-range_mm c =
    rw c.from_residual-in_err-range_mm.ensures (λ o h e.
    let p = has-four c.args.columns.now o h e in
    let digit : c.digit_of_strength-digit.result ≡ strength_digit o.strength_millidbhz = c.digit_of_strength-digit.ensures
    ∙ ap strength_digit (strength-same c.split_at-3.result.1.now c.in_ok-strength.strength o.strength_millidbhz c.in_ok-strength.ensures.0 h.strength c.in_ok-strength.ensures.1
    (back-three c.args.columns.now _ _ _ c.split_at.ensures.back c.split_at-2.ensures.back c.split_at-3.ensures.back ∙ p.strength)) in
    c.in_err-range_mm.ensures o.range_mm h.range (c.split_at.ensures.front ∙ p.range ∙ ap (λ (d : ℕ). observation o.range_mm 32 d) (sym digit)))

pub returns-in_err-phase_millicycles : goal.returns-in_err-phase_millicycles
returns-in_err-phase_millicycles c =
    rw c.from_residual-in_err-phase_millicycles.ensures (λ o h e.
    let p = has-four c.args.columns.now o h e in
    let digit : c.digit_of_strength-digit.result ≡ strength_digit o.strength_millidbhz = c.digit_of_strength-digit.ensures
    ∙ ap strength_digit (strength-same c.split_at-3.result.1.now c.in_ok-strength.strength o.strength_millidbhz c.in_ok-strength.ensures.0 h.strength c.in_ok-strength.ensures.1
    (back-three c.args.columns.now _ _ _ c.split_at.ensures.back c.split_at-2.ensures.back c.split_at-3.ensures.back ∙ p.strength)) in
    let phase = c.split_at-2.ensures.front ∙ ap (λ (xs : List ℕ). take 16 xs) c.split_at.ensures.back ∙ p.phase in
    let lock = lock-digit c.split_at-2.result.0.now o.phase_millicycles o.slip o.half (strength_digit o.strength_millidbhz) h.phase h.lock phase in
    c.in_err-phase_millicycles.ensures o.phase_millicycles h.phase (phase ∙ (rw (lock, digit) refl)))

pub returns-in_err-doppler_millihertz : goal.returns-in_err-doppler_millihertz
returns-in_err-doppler_millihertz c =
    rw c.from_residual-in_err-doppler_millihertz.ensures (λ o h e.
    let p = has-four c.args.columns.now o h e in
    let shift = c.split_at-3.ensures.front ∙ ap (λ (xs : List ℕ). take 16 xs) (back-two c.args.columns.now _ _ c.split_at.ensures.back c.split_at-2.ensures.back) ∙ p.shift in
    c.in_err-doppler_millihertz.ensures o.doppler_millihertz h.doppler shift)
