use Rattle.std.proofs.Common.{◌∙◌, ap, sym, ℕ, List, take, drop}
use Rattle.rtk_rinex.specs.Record.{strength_digit, lli_digit}
use Rattle.rtk_rinex.proofs.CellLemmas.{lock-digit}
use Rattle.rtk_rinex.proofs.KnownLemmas.{same_fields, shows-three}
use Rattle.rtk_rinex.proofs.value_read.read_observed.Goals as goal

pub returns : goal.returns
returns c = λ o h e.
    let p = shows-three c.args.columns.now o c.requires h e in
    let digit = strength_digit o.strength_millidbhz in
    let phase = c.split_at-2.ensures.front ∙ ap (λ (xs : List ℕ). take 16 xs) c.split_at.ensures.back ∙ p.phase in
    let strength = ap (λ (xs : List ℕ). take 14 xs) (c.split_at-2.ensures.back ∙ ap (λ (xs : List ℕ). drop 16 xs) c.split_at.ensures.back) ∙ p.strength in
    let lock = c.read_lock-slip.ensures o.slip o.half (lock-digit c.split_at-2.result.0.now o.phase_millicycles o.slip o.half digit h.phase h.lock phase) in
    same_fields _ o
    (c.read_value-range_mm.ensures o.range_mm 32 digit h.range (c.split_at.ensures.front ∙ p.range))
    (c.read_value-phase_millicycles.ensures o.phase_millicycles (lli_digit o.slip o.half) digit h.phase phase)
    (sym h.doppler)
    (c.read_strength-strength_millidbhz.ensures o.strength_millidbhz h.strength strength)
    lock.0 lock.1
