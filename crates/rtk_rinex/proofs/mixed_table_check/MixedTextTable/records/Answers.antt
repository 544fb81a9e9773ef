use Rattle.std.proofs.Common.{◌∙◌, ap}
use Rattle.std.proofs.lemmas.Grind.{not_there}
use Rattle.rtk_rinex.specs.Header.{position_view}
use Rattle.rtk_rinex.specs.CheckTable.{TableView}
use Rattle.rtk_rinex.proofs.MixedTextLemmas.{header-of}
use Rattle.rtk_rinex.proofs.MixedRecordsLemmas.{left-after, records-of}
use Rattle.rtk_rinex.proofs.mixed_table_check.MixedTextTable.records.Goals as goal

pub unreachable-requires : goal.unreachable-requires
unreachable-requires c =
    not_there c.self.invariant (λ h. c.in_default.ensures.none (header-of h.table c.self.inside.text.now h.is_table h.text))

pub of_text-requires : goal.of_text-requires
of_text-requires c =
    let text = c.self.inside.text.now in
    let heading = c.in-Ok.heading in
    let is = c.in-Ok.ensures in
    rw c.of_head.ensures
    (records-of text heading.records.now heading.head (position_view heading.position) heading.first c.self.inside.counts.epochs c.self.inside.counts.satellites is.text is.only c.self.invariant)

pub returns-clause-records : goal.returns-clause-records
returns-clause-records c =
    let text = c.self.inside.text.now in
    let heading = c.in-Ok.heading in
    let is = c.in-Ok.ensures in
    rw (c.of_text.ensures, c.of_head.ensures) (λ t good e.
    left-after text heading.records.now heading.head (position_view heading.position) heading.first t is.text is.only good (ap (λ (v : TableView). v.text) c.self.view_is ∙ e))

pub returns-clause-good : goal.returns-clause-good
returns-clause-good c =
    let text = c.self.inside.text.now in
    let heading = c.in-Ok.heading in
    let is = c.in-Ok.ensures in
    rw (c.of_text.ensures, c.of_head.ensures)
    (records-of text heading.records.now heading.head (position_view heading.position) heading.first c.self.inside.counts.epochs c.self.inside.counts.satellites is.text is.only c.self.invariant)
