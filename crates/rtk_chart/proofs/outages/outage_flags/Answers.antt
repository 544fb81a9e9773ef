use Rattle.std.proofs.Common.{◌≡◌, ◌∷◌, [], ◌++◌, ◌+◌, ℕ, Bool, List, length, map, sym, ap, ◌∙◌, arith}
use Rattle.std.specs.List.{range_with_len}
use Rattle.std.proofs.lemmas.List.{map_push}
use Rattle.std.proofs.lemmas.List.FromFn.{length-map-range_with_len}
use Rattle.rtk_chart.specs.Grid.{is_out}
use Rattle.rtk_chart.proofs.ListLemmas.{range-more}
use Rattle.rtk_chart.proofs.outages.outage_flags.Goals as goal

pub loop-bin-preserved : goal.loop-bin-preserved
loop-bin-preserved c =
    let f : ℕ → Bool = is_out c.args.outages.now c.args.place in
    let i : ℕ = c.loop-bin.bin in
    let here : 0 + i ≡ i = omega arith in
    c.in_ok-push.ensures.items
    ∙ ap (λ (fs : List Bool). fs ++ c.is_out.result ∷ []) c.loop-bin.invariant
    ∙ ap (λ (b : Bool). map f (range_with_len 0 i) ++ b ∷ []) c.is_out.ensures
    ∙ sym (ap (λ (ks : List ℕ). map f ks) (range-more 0 i) ∙ map_push f (range_with_len 0 i) (0 + i) ∙ ap (λ (k : ℕ). map f (range_with_len 0 i) ++ f k ∷ []) here)

pub returns-clause-value : goal.returns-clause-value
returns-clause-value c =
    let f : ℕ → Bool = is_out c.args.outages.now c.args.place in
    let end : c.loop-bin.bin ≡ c.args.bins = omega (arith, c.loop-bin.auto.bin-end, c.loop-bin-test.false) in
    c.loop-bin.invariant ∙ ap (λ (k : ℕ). map f (range_with_len 0 k)) end

pub returns-clause-size : goal.returns-clause-size
returns-clause-size c =
    let f : ℕ → Bool = is_out c.args.outages.now c.args.place in
    let many = length-map-range_with_len f 0 c.loop-bin.bin in
    let end : c.loop-bin.bin ≡ c.args.bins = omega (arith, c.loop-bin.auto.bin-end, c.loop-bin-test.false) in
    ap (λ (fs : List Bool). length fs) c.loop-bin.invariant ∙ many ∙ end
