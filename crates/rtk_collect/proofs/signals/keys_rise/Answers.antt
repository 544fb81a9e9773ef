use Rattle.std.proofs.Common.{◌≡◌, ◌<◌, ◌+◌, ◌-◌, refl, ap, sym, subst, ◌∙◌, length, get_or, drop, arith}
use Rattle.std.proofs.lemmas.Bool.{ltb-true}
use Rattle.std.proofs.lemmas.List.{get_or_default}
use Rattle.rtk_collect.specs.Key.{KeysRise}
use Rattle.rtk_collect.proofs.RisingLemmas.{rises-last, rises-from, place-key}
use Rattle.rtk_collect.proofs.KindLemmas.{some-cells}
use Rattle.rtk_collect.proofs.signals.keys_rise.Goals as goal

pub loop-at-init : goal.loop-at-init
loop-at-init g c =
    let es = g.E.Entry.entries in
    let cells = c.args.cells.now in
    let some : 0 < length cells = some-cells cells _ c.is_empty.ensures c.if-is_empty.false in
    let inside : length cells - 1 < length cells = omega (arith, some) in
    record {
      rises = λ t. rises-last es cells (length cells) refl;
      within = inside;
      above = λ d. c.place-above.ensures.value ∙ ap es.place (c.index-cells-at.is ∙ get_or_default cells (length cells - 1) c.index-cells-at.result d inside);
    }

pub loop-at-preserved-then-rises : goal.loop-at-preserved-then-rises
loop-at-preserved-then-rises g c =
    let es = g.E.Entry.entries in
    let cells = c.args.cells.now in
    let i = c.loop-at.at - 1 in
    let x = c.index-cells-at-in-loop-at.result in
    let next : c.loop-at.at ≡ i + 1 = omega (arith, c.loop-at-test.true) in
    let inside : i < length cells = omega (arith, c.loop-at.invariant.within) in
    let after : i + 1 < length cells = omega (arith, next, c.loop-at.invariant.within) in
    let first = c.place-place.ensures.value ∙ ap es.place c.index-cells-at-in-loop-at.is in
    let second = c.loop-at.invariant.above x ∙ ap (λ (n : _). es.place (get_or cells n x)) next in
    let same = c.requires.1 i x inside ∙ sym (c.requires.1 (i + 1) x after) in
    record {
      rises = λ t.
          let below : c.place-place.result < c.loop-at.above = ltb-true _ _ t in
          let less : es.place (get_or cells i x) < es.place (get_or cells (i + 1) x) = omega (arith, first, second, below) in
          rises-from es i x cells after (place-key es (get_or cells i x) (get_or cells (i + 1) x) same less)
          (subst (λ (n : _). KeysRise es (drop n cells)) next (c.loop-at.invariant.rises c.if-rises.true));
      within = inside;
      above = λ d. first ∙ ap es.place (get_or_default cells i x d inside);
    }
