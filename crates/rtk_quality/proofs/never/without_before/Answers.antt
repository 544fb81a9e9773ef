use Rattle.std.proofs.Common.{◌≡◌, ◌<◌, ◌+◌, ◌∙◌, ℕ, Bool, cond, count_by, sym, ap, arith}
use Rattle.std.specs.List.{range_with_len}
use Rattle.rtk_tracking.specs.Passes.{sightings_of}
use Rattle.rtk_quality.specs.Never.{is_without_at, without_before}
use Rattle.rtk_quality.proofs.NeverLemmas.{counted}
use Rattle.rtk_quality.proofs.never.without_before.Goals as goal
use Rattle.rtk_quality.proofs.never.without_before.Goals.{then-is_without, else-is_without}

pub loop-before-preserved : goal.loop-before-preserved
loop-before-preserved c = elim c.if-is_without.branch [
  | then-is_without w ↦ record {
    few = let was = c.loop-before.invariant.few in let now = w.count-is in omega (arith, was, now);
    many = λ most interval es stand.
        let within : c.loop-before.before < most = omega (arith, c.loop-before-test.true, c.requires.place, stand.size) in
        counted (is_without_at interval es c.args.at) c.loop-before.before c.loop-before.count _ c.is_without.result
        (c.is_without.ensures interval (sightings_of (c.loop-before.before + 1) es) (stand.each c.loop-before.before _ within))
        (c.loop-before.invariant.many most interval es stand) (w.count-is ∙ sym (ap (λ (b : Bool). c.loop-before.count + cond b 1 0) w.if-is_without.true));
  }
  | else-is_without w ↦ record {
    few = let was = c.loop-before.invariant.few in let now = w.count-is in omega (arith, was, now);
    many = λ most interval es stand.
        let within : c.loop-before.before < most = omega (arith, c.loop-before-test.true, c.requires.place, stand.size) in
        counted (is_without_at interval es c.args.at) c.loop-before.before c.loop-before.count _ c.is_without.result
        (c.is_without.ensures interval (sightings_of (c.loop-before.before + 1) es) (stand.each c.loop-before.before _ within))
        (c.loop-before.invariant.many most interval es stand) (let none : c.loop-before.count ≡ c.loop-before.count + 0 = omega arith in w.count-is ∙ none ∙ sym (ap (λ (b : Bool). c.loop-before.count + cond b 1 0) w.if-is_without.false));
  }
]

pub returns : goal.returns
unfolding without_before
returns c = λ most interval es stand.
    let end : c.loop-before.before ≡ c.args.place = omega (arith, c.loop-before.auto.before-end, c.loop-before-test.false) in
    c.loop-before.invariant.many most interval es stand ∙ ap (λ (k : ℕ). count_by (is_without_at interval es c.args.at) (range_with_len 0 k)) end
