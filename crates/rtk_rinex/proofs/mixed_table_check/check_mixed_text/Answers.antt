use Rattle.std.proofs.Common.{arith, ap, length, length-append}
use Rattle.std.proofs.lemmas.Grind.{merely}
use Rattle.rtk_rinex.specs.Header.{position_view}
use Rattle.rtk_rinex.specs.CheckTable.{TableView}
use Rattle.rtk_rinex.specs.MixedHeader.{mixed_header_text}
use Rattle.rtk_rinex.proofs.TextLemmas.{on_err}
use Rattle.rtk_rinex.proofs.MixedTextLemmas.{header-none, few_lines, holds, records-none}
use Rattle.rtk_rinex.proofs.mixed_table_check.check_mixed_text.Goals as goal

pub returns-in_err-heading-clause-none : goal.returns-in_err-heading-clause-none
returns-in_err-heading-clause-none c = on_err c.from_residual.result (header-none c.args.bytes.now c.in_err-heading.ensures.none)

pub check_mixed_records-requires : goal.check_mixed_records-requires
check_mixed_records-requires c =
    let h = c.in_ok-heading.heading in
    let is = c.in_ok-heading.ensures in
    let few = few_lines h.lines h.head (position_view h.position) h.first is.lines in
    record { lines = omega (arith, few, ap length is.text, length-append (mixed_header_text h.head (position_view h.position) h.first) h.records.now) }

pub returns-in_err-counts-clause-none : goal.returns-in_err-counts-clause-none
returns-in_err-counts-clause-none c =
    let h = c.in_ok-heading.heading in
    let is = c.in_ok-heading.ensures in
    on_err c.from_residual-in_err-counts.result
    (records-none c.args.bytes.now h.records.now h.head (position_view h.position) h.first h.lines c.in_err-counts.field-0.0 is.good.0 is.text is.only
    (rw c.of_head-form.ensures at c.in_err-counts.ensures.fault))

pub of_text-requires : goal.of_text-requires
of_text-requires c =
    let h = c.in_ok-heading.heading in
    let is = c.in_ok-heading.ensures in
    let read = rw c.of_head-form.ensures at c.in_ok-counts.ensures.records in
    merely (holds c.args.bytes.now h.records.now h.head (position_view h.position) h.first
    c.in_ok-counts.counts.epochs c.in_ok-counts.counts.satellites is.good.0 is.good.1 is.good.2 is.text is.only read)

pub returns-clause-table : goal.returns-clause-table
returns-clause-table c =
    let h = c.in_ok-heading.heading in
    let is = c.in_ok-heading.ensures in
    let read = rw c.of_head-form.ensures at c.in_ok-counts.ensures.records in
    let table = holds c.args.bytes.now h.records.now h.head (position_view h.position) h.first
    c.in_ok-counts.counts.epochs c.in_ok-counts.counts.satellites is.good.0 is.good.1 is.good.2 is.text is.only read in
    rw (ap (λ (t : TableView). t.epochs) c.of_text.ensures, ap (λ (t : TableView). t.satellites) c.of_text.ensures) table
