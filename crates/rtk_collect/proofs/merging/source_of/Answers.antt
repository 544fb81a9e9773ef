use Rattle.rtk_obs.specs.declared.cell.Cell.{Cell}
use Rattle.std.proofs.Common.{ap, List, All, refl, sym, ◌∙◌, subst}
use Rattle.rtk_obs.specs.declared.cell.CellSource.TheVariants.{Legacy}
use Rattle.rtk_collect.proofs.RisingLemmas.{no-cells}
use Rattle.rtk_collect.proofs.KindLemmas.{IsOf, kept-none, some-cells}
use Rattle.rtk_collect.proofs.merging.source_of.Goals as goal

pub returns-then-is_empty : goal.returns-then-is_empty
returns-then-is_empty g c = subst (λ (xs : List _). All (IsOf g.E.Entry.entries Legacy) xs) (sym (no-cells c.args.cells.now _ refl (sym c.is_empty.ensures ∙ c.if-is_empty.true))) (kept-none g.E.Entry.entries g.E.Entry.InRange Legacy).kind

pub returns : goal.returns
returns g c = λ k d l. c.requires.1 k d l ∙ sym (c.requires.1 0 c.index-cells-0.result (some-cells c.args.cells.now _ c.is_empty.ensures c.if-is_empty.false)) ∙ ap (λ (x : _). (g.E.Entry.entries.cell x).source) (sym c.index-cells-0.is) ∙ ap (λ (x : Cell). x.source) (sym c.cell.ensures)
