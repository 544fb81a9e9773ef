use Rattle.std.proofs.Common.{Some, ◌∙◌, ap, sym, arith}
use Rattle.rtk_collect.specs.Key.{key}
use Rattle.rtk_collect.proofs.CellsLemmas.{found-here, absent-here, absent-past}
use Rattle.rtk_collect.proofs.merging.kept_cell.Goals as goal

pub returns-then-key_of-key : goal.returns-then-key_of-key
returns-then-key_of-key g c =
    let d = c.index-kept-at.result in
    let is = c.index-kept-at.is in
    ap Some is ∙ sym (found-here g.E.Entry.entries c.args.key c.args.at d c.args.kept.now c.requires.place (omega (arith, c.if-at-kept.false)) (ap (key g.E.Entry.entries) (sym is) ∙ sym c.key_of.ensures ∙ c.if-key_of-key.true))

pub returns-else-key_of-key : goal.returns-else-key_of-key
returns-else-key_of-key g c = sym (absent-here g.E.Entry.entries c.args.key c.args.at c.index-kept-at.result c.args.kept.now c.requires.rises c.requires.place (λ e. c.if-key_of-key.false (c.key_of.ensures ∙ ap (key g.E.Entry.entries) c.index-kept-at.is ∙ e)))

pub returns-then-at-kept : goal.returns-then-at-kept
returns-then-at-kept g c = sym (absent-past g.E.Entry.entries c.args.key c.args.at c.args.kept.now c.requires.rises c.requires.place (omega (arith, c.if-at-kept.true)))
