-- What an epoch shows of a satellite, row by row.
use Rattle.std.proofs.Common.{◌≡◌, ◌<◌, ◌≤◌, ℕ, zero, suc, false, List, [], ◌∷◌, length, get_or, refl, arith}
use Rattle.std.specs.Prelude.{is_some}
use Rattle.rtk_rinex.specs.declared.epoch_table.Observed.{Observed}
use Rattle.rtk_tracking.specs.Epochs.{shows_phase}

pub phase-at : (place : ℕ) (os : List Observed) (d : Observed) → place < length os → shows_phase place os ≡ is_some (get_or os place d).phase_millicycles
phase-at place [] d within = absurd (omega arith)
phase-at zero (x ∷ os) d within = refl
phase-at (suc place) (x ∷ os) d within =
    let inside : place < length os = omega arith in
    phase-at place os d inside

pub no-phase : (place : ℕ) (os : List Observed) → length os ≤ place → shows_phase place os ≡ false
no-phase place [] past = refl
no-phase zero (x ∷ os) past = absurd (omega arith)
no-phase (suc place) (x ∷ os) past =
    let further : length os ≤ place = omega arith in
    no-phase place os further
