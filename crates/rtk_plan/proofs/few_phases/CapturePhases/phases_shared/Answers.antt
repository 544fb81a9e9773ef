use Rattle.std.proofs.Common.{◌≡◌, ◌<◌, ◌≤◌, ◌+◌, ◌-◌, ℕ, Bool, ap, ◌∙◌, arith}
use Rattle.std.specs.List.{sum_by, range_with_len}
use Rattle.rtk_plan.specs.FewPhases.{code_count, phases_if, phases_of, phases_shared}
use Rattle.rtk_plan.proofs.SumLemmas.{sum-more, mark-at}
use Rattle.rtk_plan.proofs.few_phases.CapturePhases.phases_shared.Goals as goal

pub loop-bit-preserved : goal.loop-bit-preserved
loop-bit-preserved c =
    let own = c.args.self.now in
    let bit : ℕ = c.loop-bit.bit in
    let from : 1 ≤ bit = c.loop-bit.auto.bit in
    let within : bit < 64 = c.loop-bit-test.true in
    let bound = c.loop-bit.invariant.0 in
    let held = c.marked_phases.type_inv in
    let same = c.from-phases.ensures in
    let n : ℕ = bit - 1 in
    let at : bit ≡ 1 + n = omega (arith, from) in
    let next : (bit + 1) - 1 ≡ n + 1 = omega (arith, from) in (
      omega (arith, from, bound, held, same),
      λ code marked.
          let has : ℕ → Bool = λ k. (code_count own.surveys.now own.station own.from k code).has_value in
          let f : ℕ → ℕ = phases_of own.surveys.now own.station own.from code c.args.other in
          let had = c.loop-bit.invariant.1 code marked in
          let is = mark-at has c.args.marks.now 64 bit c.from.result _ c.from.ensures within marked in
          let one : c.marked_phases.result ≡ f bit = c.marked_phases.ensures ∙ ap (λ (b : Bool). phases_if b (code_count own.surveys.now own.station own.from bit c.args.other).phases) is in
          let more = sum-more f 1 n bit ((bit + 1) - 1) at next in
          omega (arith, had, one, same, more),
    )

pub returns-clause-value : goal.returns-clause-value
unfolding phases_shared
returns-clause-value c = λ code marked.
    let own = c.args.self.now in
    let end : c.loop-bit.bit - 1 ≡ 63 = omega (arith, c.loop-bit-test.false, c.loop-bit.auto) in
    c.loop-bit.invariant.1 code marked ∙ ap (λ (k : ℕ). sum_by (phases_of own.surveys.now own.station own.from code c.args.other) (range_with_len 1 k)) end
