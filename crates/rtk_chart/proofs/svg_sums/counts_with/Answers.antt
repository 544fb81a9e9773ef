use Rattle.std.proofs.Common.{◌≡◌, ◌++◌, ◌∷◌, [], ℕ, length, map, ap, ◌∙◌, arith}
use Rattle.std.specs.List.{range_with_len}
use Rattle.std.proofs.lemmas.List.FromFn.{length-map-range_with_len}
use Rattle.rtk_chart.specs.SvgSystems.{both_counts}
use Rattle.rtk_chart.proofs.MixedLemmas.{grow-more}
use Rattle.rtk_chart.proofs.svg_sums.counts_with.Goals as goal

pub loop-bin-preserved : goal.loop-bin-preserved
loop-bin-preserved c =
    grow-more (both_counts c.args.these.now c.args.more.now) c.loop-bin.bin c.loop-bin.counts.items c.push.new.self.items c.loop-bin.invariant
    (c.in_ok-push.ensures.items ∙ ap (λ (n : ℕ). c.loop-bin.counts.items ++ n ∷ []) c.both_counts.ensures)

pub returns-clause-value : goal.returns-clause-value
returns-clause-value c =
    let end : c.loop-bin.bin ≡ length c.args.these.now = omega (arith, c.loop-bin.auto.bin-end, c.loop-bin-test.false) in
    c.loop-bin.invariant ∙ ap (λ (n : ℕ). map (both_counts c.args.these.now c.args.more.now) (range_with_len 0 n)) end

pub returns-clause-size : goal.returns-clause-size
returns-clause-size c =
    let end : c.loop-bin.bin ≡ length c.args.these.now = omega (arith, c.loop-bin.auto.bin-end, c.loop-bin-test.false) in
    ap length c.loop-bin.invariant ∙ length-map-range_with_len (both_counts c.args.these.now c.args.more.now) 0 c.loop-bin.bin ∙ end
