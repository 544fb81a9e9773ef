use Rattle.std.proofs.Common.{◌∙◌, ap, sym, flat_map}
use Rattle.std.proofs.lemmas.Grind.{not_there}
use Rattle.rtk_rinex.specs.CheckTable.{TableView}
use Rattle.rtk_rinex.specs.MixedRecord.{mixed_record_text}
use Rattle.rtk_rinex.proofs.MixedTextLemmas.{header-of}
use Rattle.rtk_rinex.proofs.mixed_table_check.MixedTextTable.heading.Goals as goal

pub unreachable-requires : goal.unreachable-requires
unreachable-requires c =
    not_there c.self.invariant (λ h. c.in_default.ensures.none (header-of h.table c.self.inside.text.now h.is_table h.text))

pub returns-clause-parts : goal.returns-clause-parts
returns-clause-parts c = λ t is e.
    let text = ap (λ (v : TableView). v.text) c.self.view_is ∙ e in
    let one = c.in-Ok.ensures.only t.head t.site t.first (flat_map (mixed_record_text t.head.doppler) t.epochs) is.head is.site is.first text in
    (sym one.0, sym one.1, sym one.2)
