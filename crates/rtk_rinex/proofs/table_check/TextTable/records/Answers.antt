use Rattle.std.proofs.Common.{◌∙◌, ap}
use Rattle.std.proofs.lemmas.Grind.{not_there}
use Rattle.rtk_rinex.specs.Header.{position_view}
use Rattle.rtk_rinex.specs.CheckTable.{TableView}
use Rattle.rtk_rinex.proofs.TextLemmas.{header-of, after_header}
use Rattle.rtk_rinex.proofs.RecordsLemmas.{left-after, records-of}
use Rattle.rtk_rinex.proofs.table_check.TextTable.records.Goals as goal

pub unreachable-requires : goal.unreachable-requires
unreachable-requires c =
    not_there c.self.invariant (λ h. c.in_default.ensures.none (header-of h.table c.self.inside.text.now h.is_table h.text))

pub of_text-requires : goal.of_text-requires
of_text-requires c =
    let text = c.self.inside.text.now in
    let header = c.in-Ok.header in
    let is = c.in-Ok.ensures in
    let rest = c.split_at.result.1.now in
    let split = after_header text rest header.used header.head (position_view header.position) header.first is.text c.split_at.ensures.back in
    rw c.codes.ensures.value
    (records-of text rest header.head (position_view header.position) header.first c.self.inside.counts.epochs c.self.inside.counts.satellites is.good.0 split is.only c.self.invariant)

pub returns-clause-records : goal.returns-clause-records
returns-clause-records c =
    let text = c.self.inside.text.now in
    let header = c.in-Ok.header in
    let is = c.in-Ok.ensures in
    let rest = c.split_at.result.1.now in
    let split = after_header text rest header.used header.head (position_view header.position) header.first is.text c.split_at.ensures.back in
    rw (c.of_text.ensures, c.codes.ensures.value) (λ t good e.
    left-after text rest header.head (position_view header.position) header.first t split is.only good (ap (λ (v : TableView). v.text) c.self.view_is ∙ e))

pub returns-clause-good : goal.returns-clause-good
returns-clause-good c =
    let text = c.self.inside.text.now in
    let header = c.in-Ok.header in
    let is = c.in-Ok.ensures in
    let rest = c.split_at.result.1.now in
    let split = after_header text rest header.used header.head (position_view header.position) header.first is.text c.split_at.ensures.back in
    rw (c.of_text.ensures, c.codes.ensures.value)
    (records-of text rest header.head (position_view header.position) header.first c.self.inside.counts.epochs c.self.inside.counts.satellites is.good.0 split is.only c.self.invariant)
