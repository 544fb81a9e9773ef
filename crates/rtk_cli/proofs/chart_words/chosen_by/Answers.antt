use Rattle.std.proofs.Common.{◌≡◌, ◌<◌, ◌+◌, ℕ, Bool, false, List, length, set, get_or, sym, ap, ◌∙◌, subst, arith}
use Rattle.std.proofs.lemmas.List.{length-set}
use Rattle.rtk_cli.specs.Steps.ChartWords.{is_named}
use Rattle.rtk_cli.proofs.ChoiceLemmas.{named-more, named-all}
use Rattle.rtk_cli.proofs.chart_words.chosen_by.Goals as goal

pub loop-place-preserved : goal.loop-place-preserved
loop-place-preserved c =
    let i = c.loop-place.invariant in
    let places : List Bool = c.loop-place.places in
    let place : ℕ = c.loop-place.place in
    let named : ℕ → Bool = is_named c.args.letters.now c.args.listed.now in
    let size = i.size in
    let within : place < length places = omega (arith, size, c.loop-place-test.true) in
    let here : c.is_named.result ≡ named (place + 1) = c.is_named.ensures ∙ ap named c.in-Some.ensures.1 in
    record {
      size = length-set places c.from.result c.is_named.result ∙ size;
      told = subst (λ (k : ℕ). (n : ℕ) → n < place + 1 → get_or (set places k c.is_named.result) n false ≡ named (n + 1)) (sym c.from.ensures)
          (named-more named places place c.is_named.result within here i.told);
    }

pub returns : goal.returns
returns c =
    named-all (is_named c.args.letters.now c.args.listed.now) c.loop-place.places
    (λ n lt. c.loop-place.invariant.told n (omega (arith, lt, c.loop-place-test.false)))
