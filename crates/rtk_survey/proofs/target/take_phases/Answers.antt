use Rattle.std.proofs.Common.{◌≡◌, ◌∷◌, ℕ, Option, sym, subst, ◌∙◌, arith}
use Rattle.rtk_message.specs.AnyDecoded.{station_of}
use Rattle.rtk_survey.specs.Targets.{HasTargetPhases}
use Rattle.rtk_survey.proofs.ResultLemmas.{on-ok}
use Rattle.rtk_survey.proofs.TargetLemmas.{taken, passed, none-known}
use Rattle.rtk_survey.proofs.target.take_phases.Goals as goal

pub returns-then-station : goal.returns-then-station
returns-then-station c = on-ok c.take_message.result (λ took systems before ms dates is has.
    let m = c.args.message.now in
    let same : c.in-Some.station ≡ station_of m = omega (arith, c.station.ensures, c.if-station.true) in
    subst (λ (o : Option ℕ). HasTargetPhases c.take_message.new.self o (m ∷ ms)) (sym c.in-Some.is)
    (taken systems c.args.phases.now c.take_message.new.self before m ms c.in-Some.station (sym c.in-Some.is ∙ is) same took has)) c.take_message.ensures

pub returns : goal.returns
returns c = λ systems before ms dates is has.
    let m = c.args.message.now in
    subst (λ (o : Option ℕ). HasTargetPhases c.args.phases.now o (m ∷ ms)) (sym c.in-Some.is)
    (passed systems c.args.phases.now before m ms c.in-Some.station (sym c.in-Some.is ∙ is) (λ same. omega (arith, same, c.station.ensures, c.if-station.false)) has)

pub returns-in_default : goal.returns-in_default
returns-in_default c = λ systems before ms dates is has.
    let m = c.args.message.now in
    subst (λ (o : Option ℕ). HasTargetPhases c.args.phases.now o (m ∷ ms)) (sym c.in_default.is)
    (none-known systems c.args.phases.now before m ms dates (sym c.in_default.is ∙ is) has)
