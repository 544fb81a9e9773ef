use Rattle.std.proofs.Common.{◌≡◌, ◌<◌, ◌-◌, ◌++◌, List, length, get_or, ap, arith, refl, sym, subst, ◌∙◌}
use Rattle.std.proofs.lemmas.Bool.{ltb-true}
use Rattle.std.proofs.lemmas.List.{append-nil, get_or_default}
use Rattle.rtk_collect.specs.Key.{key, KeysRise}
use Rattle.rtk_collect.proofs.RisingLemmas.{no-cells, rises-after}
use Rattle.rtk_collect.proofs.KindLemmas.{some-cells}
use Rattle.rtk_collect.proofs.merging.are_after.Goals as goal

pub returns-then-is_empty : goal.returns-then-is_empty
returns-then-is_empty g c = λ t k s.
    subst (λ (xs : List _). KeysRise g.E.Entry.entries (xs ++ c.args.cells.now)) (sym (no-cells c.args.kept.now _ refl (sym c.is_empty.ensures ∙ c.if-is_empty.true))) s

pub returns-then-is_empty-2 : goal.returns-then-is_empty-2
returns-then-is_empty-2 g c = λ t k s.
    subst (λ (xs : List _). KeysRise g.E.Entry.entries (c.args.kept.now ++ xs)) (sym (no-cells c.args.cells.now _ refl (sym c.is_empty-2.ensures ∙ c.if-is_empty-2.true)))
    (subst (KeysRise g.E.Entry.entries) (sym (append-nil c.args.kept.now)) k)

pub returns : goal.returns
returns g c = λ t k s.
    let es = g.E.Entry.entries in
    let kept = c.args.kept.now in
    let cells = c.args.cells.now in
    let x = c.index-kept-kept.result in
    let y = c.index-cells-0.result in
    let some : 0 < length kept = some-cells kept _ c.is_empty.ensures c.if-is_empty.false in
    let more : 0 < length cells = some-cells cells _ c.is_empty-2.ensures c.if-is_empty-2.false in
    let last = c.key_of.ensures ∙ ap (key es) c.index-kept-kept.is in
    let first = c.key_of-2.ensures ∙ ap (key es) (c.index-cells-0.is ∙ get_or_default cells 0 y x more) in
    rises-after es kept cells x k s some more (omega (arith, last, first, ltb-true c.key_of.result c.key_of-2.result t))
