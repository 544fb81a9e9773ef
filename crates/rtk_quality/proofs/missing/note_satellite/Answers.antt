use Rattle.std.proofs.Common.{◌<◌, ◌≤◌, ◌++◌, ℕ, List, length, sym, subst, arith}
use Rattle.std.proofs.lemmas.List.{append-nil, take_all}
use Rattle.rtk_obs.specs.declared.any_code.AnyCode.{AnyCode}
use Rattle.rtk_quality.specs.Largest.{AreLargest}
use Rattle.rtk_quality.specs.Missing.{missing_from, size_of_missing}
use Rattle.rtk_quality.specs.Standing.{StandsForMissing}
use Rattle.rtk_quality.specs.declared.missing.MissingCode.{MissingCode}
use Rattle.rtk_quality.specs.declared.missing.MissingRuns.{MissingRuns}
use Rattle.rtk_quality.proofs.MissingCodeLemmas.{codes-more}
use Rattle.rtk_quality.proofs.missing.note_satellite.Goals as goal

pub loop-place-init : goal.loop-place-init
loop-place-init c = λ before all counts runs are. subst (λ (ms : List MissingCode). AreLargest size_of_missing c.args.missing.now ms) (sym (append-nil all)) are

pub loop-place-preserved : goal.loop-place-preserved
loop-place-preserved c = λ before all counts runs are.
    let i : ℕ = c.loop-place.place in
    let within : i < length c.args.codes.now = c.loop-place-test.true in
    let stands : StandsForMissing c.in-Some.runs.now c.args.interval i before =
    subst (λ (m : MissingRuns). StandsForMissing m c.args.interval i before) (sym c.in-Some.ensures.lookup.1) (runs.each i c.in-Some.runs.now within) in
    codes-more c.args.interval before c.args.satellite i c.args.codes.now _ size_of_missing c.loop-place.missing _ all within (c.loop-place.invariant before all counts runs are)
    (λ ms so_far. c.in_ok-note_code.ensures before ms counts stands so_far)

pub returns-in_default : goal.returns-in_default
returns-in_default c = λ before all counts runs are.
    let size = runs.size in
    absurd (omega (arith, c.loop-place-test.true, size, c.in_default.ensures.lookup.3))

pub returns : goal.returns
returns c = λ before all counts runs are.
    let end : length c.args.codes.now ≤ c.loop-place.place = omega (arith, c.loop-place-test.false) in
    subst (λ (cs : List AnyCode). AreLargest size_of_missing c.loop-place.missing (all ++ missing_from c.args.interval before c.args.satellite 0 cs))
    (take_all c.loop-place.place c.args.codes.now end) (c.loop-place.invariant before all counts runs are)
