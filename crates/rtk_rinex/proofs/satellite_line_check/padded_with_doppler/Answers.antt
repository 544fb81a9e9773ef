use Rattle.std.proofs.Common.{◌≡◌, ◌-◌, ℕ, length, arith, take, replicate, refl}
use Rattle.std.proofs.lemmas.List.{take-replicate}
use Rattle.rtk_rinex.specs.Columns.{left}
use Rattle.rtk_rinex.proofs.satellite_line_check.padded_with_doppler.Goals as goal

pub returns-clause-value : goal.returns-clause-value
unfolding left
returns-clause-value c =
    let columns = c.args.columns.now in
    let n = 64 - length columns in
    let cut : take n (replicate {A = ℕ} 64 32) ≡ replicate n 32 = take-replicate {X = ℕ} n 64 32 (omega arith) in
    rw (c.append-2.ensures.items, c.append.ensures.items, c.new-whole.ensures, cut) refl
