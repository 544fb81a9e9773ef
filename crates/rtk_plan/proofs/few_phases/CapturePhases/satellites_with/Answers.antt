use Rattle.std.proofs.Common.{◌≡◌, ◌<◌, ℕ, Bool, List, length, ap, ◌∙◌, arith}
use Rattle.std.proofs.lemmas.List.{length-set}
use Rattle.rtk_survey.specs.declared.phases.PhaseCount.{PhaseCount}
use Rattle.rtk_plan.specs.FewPhases.{code_count}
use Rattle.rtk_plan.proofs.SumLemmas.{mark-more}
use Rattle.rtk_plan.proofs.few_phases.CapturePhases.satellites_with.Goals as goal

pub loop-bit-preserved : goal.loop-bit-preserved
loop-bit-preserved c =
    let i = c.loop-bit.invariant in
    let own = c.args.self.now in
    let marks : List Bool = c.loop-bit.marks in
    let bit : ℕ = c.loop-bit.bit in
    let has : ℕ → Bool = λ n. (code_count own.surveys.now own.station own.from n c.args.code).has_value in
    let mark : Bool = c.code_count.result.has_value in
    let size = i.size in
    let within : bit < length marks = omega (arith, size, c.loop-bit-test.true) in
    let is : mark ≡ has bit = ap (λ (count : PhaseCount). count.has_value) c.code_count.ensures in
    record {
      size = length-set marks c.from.result mark ∙ size;
      told = mark-more has marks bit c.from.result mark c.from.ensures within is i.told;
    }

pub returns : goal.returns
returns c = λ n none lt. c.loop-bit.invariant.told n none (omega (arith, lt, c.loop-bit-test.false))
