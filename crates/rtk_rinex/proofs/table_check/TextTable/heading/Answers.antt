use Rattle.std.proofs.Common.{◌∙◌, ap, sym, flat_map}
use Rattle.std.proofs.lemmas.Grind.{not_there}
use Rattle.rtk_rinex.specs.Record.{record_text}
use Rattle.rtk_rinex.specs.CheckTable.{TableView}
use Rattle.rtk_rinex.proofs.TextLemmas.{header-of}
use Rattle.rtk_rinex.proofs.table_check.TextTable.heading.Goals as goal

pub unreachable-requires : goal.unreachable-requires
unreachable-requires c =
    not_there c.self.invariant (λ h. c.in_default.ensures.none (header-of h.table c.self.inside.text.now h.is_table h.text))

pub returns-clause-parts : goal.returns-clause-parts
returns-clause-parts c = λ t is e.
    let text = ap (λ (v : TableView). v.text) c.self.view_is ∙ e in
    let one = c.in-Ok.ensures.only t.head t.site t.first (flat_map record_text t.epochs) is.head is.site is.first text in
    (sym one.0, sym one.1, sym one.2)
