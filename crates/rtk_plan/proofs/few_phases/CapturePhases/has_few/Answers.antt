use Rattle.std.proofs.Common.{◌≡◌, ◌<◌, ◌≤◌, ◌*◌, ℕ, false, nat_lt, sym, ap, ◌∙◌, arith}
use Rattle.std.proofs.lemmas.Bool.{lt-ltb, ltb_from_iff}
use Rattle.std.specs.List.{list_any, range_with_len}
use Rattle.rtk_plan.specs.FewPhases.{phases_shared}
use Rattle.rtk_plan.proofs.SumLemmas.{any-at, any-more}
use Rattle.rtk_plan.proofs.few_phases.CapturePhases.has_few.Goals as goal

not-less : (a b : ℕ) → b ≤ a → nat_lt a b ≡ false
not-less a b le = sym (ltb_from_iff (λ h. cc, λ lt. absurd (omega (arith, lt, le))))

pub returns-then-own-phases_shared : goal.returns-then-own-phases_shared
returns-then-own-phases_shared c =
    let i : ℕ = c.loop-other.other in
    let shared : ℕ → ℕ = λ other. phases_shared c.args.self.now.surveys.now c.args.self.now.station c.args.self.now.from c.args.code other in
    let own : ℕ = shared c.args.code in
    let own_is : c.phases_shared-own.result ≡ own = c.phases_shared-own.ensures.value c.args.code c.satellites_with-marks.ensures in
    let other_is : c.phases_shared.result ≡ shared i = c.phases_shared.ensures.value c.args.code c.satellites_with-marks.ensures in
    let more : 2 * own < shared i = omega (arith, own_is, other_is, c.if-own-phases_shared.true) in
    sym (any-at (λ other. nat_lt (2 * own) (shared other)) 16 i c.loop-other-test.true (lt-ltb (2 * own) (shared i) more))

pub loop-other-preserved : goal.loop-other-preserved
loop-other-preserved c =
    let i : ℕ = c.loop-other.other in
    let shared : ℕ → ℕ = λ other. phases_shared c.args.self.now.surveys.now c.args.self.now.station c.args.self.now.from c.args.code other in
    let own : ℕ = shared c.args.code in
    let own_is : c.phases_shared-own.result ≡ own = c.phases_shared-own.ensures.value c.args.code c.satellites_with-marks.ensures in
    let other_is : c.phases_shared.result ≡ shared i = c.phases_shared.ensures.value c.args.code c.satellites_with-marks.ensures in
    let fails : nat_lt (2 * own) (shared i) ≡ false = not-less (2 * own) (shared i) (omega (arith, own_is, other_is, c.if-own-phases_shared.false)) in
    any-more (λ other. nat_lt (2 * own) (shared other)) i c.loop-other.invariant fails

pub returns : goal.returns
returns c =
    let shared : ℕ → ℕ = λ other. phases_shared c.args.self.now.surveys.now c.args.self.now.station c.args.self.now.from c.args.code other in
    let end : c.loop-other.other ≡ 16 = omega (arith, c.loop-other.auto.other-end, c.loop-other-test.false) in
    sym (ap (λ (k : ℕ). list_any (λ other. nat_lt (2 * shared c.args.code) (shared other)) (range_with_len 0 k)) (sym end) ∙ c.loop-other.invariant)
