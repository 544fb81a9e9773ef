use Rattle.std.proofs.Common.{◌≤◌, ◌||◌, Bool, false, cond, get_or, length, sym, ap, inl, inr, ◌∙◌, arith}
use Rattle.std.proofs.lemmas.Bool.{cases_lt, lt-ltb, le-ltb}
use Rattle.rtk_tracking.specs.Epochs.{shows_phase}
use Rattle.rtk_tracking.proofs.ObservationLemmas.{no-phase}
use Rattle.rtk_tracking.proofs.passes.add_phases.Goals as goal

pub returns : goal.returns
returns c = λ place within.
    let had : Bool = get_or c.args.had.now place false in
    let now : Bool = shows_phase place c.args.observed.now || had in
    elim (cases_lt place c.loop-place.place) [
      | inl below ↦ c.loop-place.invariant place within ∙ ap (λ (b : Bool). cond b now had) (lt-ltb place c.loop-place.place below)
      | inr above ↦
          let past : length c.args.observed.now ≤ place = omega (arith, above, within, c.loop-place-test.false) in
          c.loop-place.invariant place within ∙ ap (λ (b : Bool). cond b now had) (le-ltb place c.loop-place.place above)
          ∙ sym (ap (λ (b : Bool). b || had) (no-phase place c.args.observed.now past))
    ]
