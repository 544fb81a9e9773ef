use Rattle.std.proofs.Common.{arith, ap}
use Rattle.std.proofs.lemmas.Grind.{merely}
use Rattle.rtk_rinex.specs.Header.{position_view}
use Rattle.rtk_rinex.specs.CheckTable.{TableView}
use Rattle.rtk_rinex.proofs.TextLemmas.{on_err, header-none, few_lines, after_header, holds, records-none}
use Rattle.rtk_rinex.proofs.table_check.check_text.Goals as goal

pub returns-in_err-header-clause-none : goal.returns-in_err-header-clause-none
returns-in_err-header-clause-none c = on_err c.from_residual.result (header-none c.args.bytes.now c.in_err-header.ensures.none)

pub check_records-requires-clause-lines : goal.check_records-requires-clause-lines
check_records-requires-clause-lines c =
    let header = c.in_ok-header.header in
    let size = c.in_ok-header.ensures.size in
    let few = few_lines header.lines header.head (position_view header.position) header.first size.1 in
    omega (arith, few, size.0, c.split_at.ensures.back_len)

pub returns-in_err-counts-clause-none : goal.returns-in_err-counts-clause-none
returns-in_err-counts-clause-none c =
    let header = c.in_ok-header.header in
    let is = c.in_ok-header.ensures in
    let rest = after_header c.args.bytes.now c.split_at.result.1.now header.used header.head (position_view header.position) header.first is.text c.split_at.ensures.back in
    on_err c.from_residual-in_err-counts.result
    (records-none c.args.bytes.now c.split_at.result.1.now header.head (position_view header.position) header.first header.lines c.in_err-counts.field-0.0 is.good.0 rest is.only
    (rw c.codes-code_count.ensures.value at c.in_err-counts.ensures.fault))

pub of_text-requires : goal.of_text-requires
of_text-requires c =
    let header = c.in_ok-header.header in
    let is = c.in_ok-header.ensures in
    let rest = after_header c.args.bytes.now c.split_at.result.1.now header.used header.head (position_view header.position) header.first is.text c.split_at.ensures.back in
    let read = rw c.codes-code_count.ensures.value at c.in_ok-counts.ensures.records in
    merely (holds c.args.bytes.now c.split_at.result.1.now header.head (position_view header.position) header.first
    c.in_ok-counts.counts.epochs c.in_ok-counts.counts.satellites is.good.0 is.good.1 is.good.2 rest is.only read)

pub returns-clause-table : goal.returns-clause-table
returns-clause-table c =
    let header = c.in_ok-header.header in
    let is = c.in_ok-header.ensures in
    let rest = after_header c.args.bytes.now c.split_at.result.1.now header.used header.head (position_view header.position) header.first is.text c.split_at.ensures.back in
    let read = rw c.codes-code_count.ensures.value at c.in_ok-counts.ensures.records in
    let table = holds c.args.bytes.now c.split_at.result.1.now header.head (position_view header.position) header.first
    c.in_ok-counts.counts.epochs c.in_ok-counts.counts.satellites is.good.0 is.good.1 is.good.2 rest is.only read in
    rw (ap (λ (t : TableView). t.epochs) c.of_text.ensures, ap (λ (t : TableView). t.satellites) c.of_text.ensures) table
