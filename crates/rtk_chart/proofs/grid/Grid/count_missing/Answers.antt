use Rattle.std.proofs.Common.{◌≡◌, ◌+◌, Some, None, refl, sym, ap, ◌∙◌, arith}
use Rattle.rtk_tracking.specs.Epochs.{capped}
use Rattle.rtk_tracking.specs.Interval.{missing_before, missing_in}
use Rattle.rtk_chart.proofs.GridLemmas.{gaps-more, missing-more}
use Rattle.rtk_chart.proofs.grid.Grid.count_missing.Goals as goal

pub returns-in-Some-clause-missing : goal.returns-in-Some-clause-missing
returns-in-Some-clause-missing c = λ es before stands.
    let e = c.args.epoch.now in
    let at = c.time-moment.ensures in
    let s = c.args.scale.now in
    let newest = sym c.in-Some.is ∙ before in
    let one = c.saturating_add-self.ensures in
    let was = stands.count in
    let many = c.missing_between-missing.ensures in
    let count : c.saturating_add-self.result ≡ capped (missing_in s.unit es + missing_before s.unit (Some c.ms.result) c.ms-in-Some.result) = omega (arith, one, was, many) in
    record {
      gaps = gaps-more s e es (Some c.ms-in-Some-2.result) c.ms-in-Some-3.result c.args.self.now.gaps.items c.mark_missing.new.gaps.items
          (ap Some c.ms-in-Some-2.ensures.value ∙ newest) (c.ms-in-Some-3.ensures.value ∙ at) stands.gaps c.mark_missing.ensures;
      count = missing-more s.unit e es (Some c.ms.result) c.ms-in-Some.result c.saturating_add-self.result
          (ap Some c.ms.ensures.value ∙ newest) (c.ms-in-Some.ensures.value ∙ at) count;
    }

pub returns-in_default-clause-missing : goal.returns-in_default-clause-missing
returns-in_default-clause-missing c = λ es before stands.
    let e = c.args.epoch.now in
    let at = c.time-moment.ensures in
    let s = c.args.scale.now in
    let newest = sym c.in_default.is ∙ before in
    let was = stands.count in
    let count : c.args.self.now.missing ≡ capped (missing_in s.unit es + 0) = omega (arith, was) in
    record {
      gaps = gaps-more s e es None c.time-moment.result c.args.self.now.gaps.items c.args.self.now.gaps.items newest at stands.gaps (record { size = refl; marked = λ k lt. refl });
      count = missing-more s.unit e es None c.time-moment.result c.args.self.now.missing newest at count;
    }
