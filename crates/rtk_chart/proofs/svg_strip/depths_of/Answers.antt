use Rattle.std.proofs.Common.{◌≡◌, ◌∷◌, [], ◌++◌, ◌+◌, ℕ, Option, List, length, map, sym, ap, ◌∙◌, arith}
use Rattle.std.specs.List.{range_with_len}
use Rattle.std.proofs.lemmas.List.{map_push}
use Rattle.std.proofs.lemmas.List.FromFn.{length-map-range_with_len}
use Rattle.rtk_chart.specs.SvgStrip.{depth_at}
use Rattle.rtk_chart.proofs.ListLemmas.{range-more}
use Rattle.rtk_chart.proofs.svg_strip.depths_of.Goals as goal

pub loop-bin-preserved : goal.loop-bin-preserved
loop-bin-preserved c =
    let f : ℕ → Option ℕ = depth_at c.args.band c.args.columns.now c.args.reach c.args.each in
    let i : ℕ = c.loop-bin.bin in
    let here : 0 + i ≡ i = omega arith in
    c.in_ok-push.ensures.items
    ∙ ap (λ (ds : List (Option ℕ)). ds ++ c.depth_at.result ∷ []) c.loop-bin.invariant
    ∙ ap (λ (d : Option ℕ). map f (range_with_len 0 i) ++ d ∷ []) c.depth_at.ensures
    ∙ sym (ap (λ (ks : List ℕ). map f ks) (range-more 0 i) ∙ map_push f (range_with_len 0 i) (0 + i) ∙ ap (λ (k : ℕ). map f (range_with_len 0 i) ++ f k ∷ []) here)

pub returns-clause-value : goal.returns-clause-value
returns-clause-value c =
    let f : ℕ → Option ℕ = depth_at c.args.band c.args.columns.now c.args.reach c.args.each in
    let end : c.loop-bin.bin ≡ c.args.bins = omega (arith, c.loop-bin.auto.bin-end, c.loop-bin-test.false) in
    c.loop-bin.invariant ∙ ap (λ (k : ℕ). map f (range_with_len 0 k)) end

pub returns-clause-size : goal.returns-clause-size
returns-clause-size c =
    let f : ℕ → Option ℕ = depth_at c.args.band c.args.columns.now c.args.reach c.args.each in
    let many = length-map-range_with_len f 0 c.loop-bin.bin in
    let end : c.loop-bin.bin ≡ c.args.bins = omega (arith, c.loop-bin.auto.bin-end, c.loop-bin-test.false) in
    ap (λ (ds : List (Option ℕ)). length ds) c.loop-bin.invariant ∙ many ∙ end
