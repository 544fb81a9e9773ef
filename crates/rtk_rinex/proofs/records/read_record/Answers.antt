use Rattle.std.proofs.Common.{◌∙◌, ap, sym}
use Rattle.std.proofs.lemmas.Grind.{not_there}
use mathlib.Core.Logic.{∥∥₁_map}
use Rattle.rtk_rinex.specs.Record.{EpochTableView}
use Rattle.rtk_rinex.proofs.LineLemmas.{no_line, same_line}
use Rattle.rtk_rinex.proofs.RecordsLemmas.{epoch_line-due, rows-due, epoch-read, record-read}
use Rattle.rtk_rinex.proofs.records.read_record.Goals as goal

pub unreachable-requires : goal.unreachable-requires
unreachable-requires c =
    not_there c.requires.record (λ has.
    let due = epoch_line-due c.args.code_count c.args.text.now has in
    no_line c.args.text.now _ _ c.in_default.ensures due.line due.text)

pub unreachable-requires-in_default-read_epoch_line : goal.unreachable-requires-in_default-read_epoch_line
unreachable-requires-in_default-read_epoch_line c =
    not_there c.requires.record (λ has.
    let due = epoch_line-due c.args.code_count c.args.text.now has in
    let line = c.in-Some.ensures in
    let same = same_line c.in-Some.line.now _ c.in-Some.after.now _ line.0 due.line (sym line.1 ∙ due.text) in
    c.in_default-read_epoch_line.ensures due.epoch.time _ due.is_epoch.time due.count same.0)

pub read_rows-requires-clause-none : goal.read_rows-requires-clause-none
read_rows-requires-clause-none c = ap (λ (e : EpochTableView). e.rows) c.restart.ensures

pub read_rows-requires-clause-lines : goal.read_rows-requires-clause-lines
read_rows-requires-clause-lines c =
    let line = c.in-Some.ensures in
    let stamp = c.in-Some-read_epoch_line.stamp in
    let is = c.in-Some-read_epoch_line.ensures in
    ∥∥₁_map c.requires.record (λ has.
    rows-due c.args.code_count stamp.time stamp.count c.args.text.now c.in-Some.line.now c.in-Some.after.now is.0 is.1 line.0 line.1 is.2 has)

pub returns-clause-epoch : goal.returns-clause-epoch
returns-clause-epoch c =
    let is = c.in-Some-read_epoch_line.ensures in
    let read = c.read_rows.ensures in
    epoch-read c.args.code_count c.in-Some-read_epoch_line.stamp.time c.in-Some-read_epoch_line.stamp.count c.read_rows.new.epoch
    (read.time ∙ ap (λ (e : EpochTableView). e.time) c.restart.ensures) is.0 is.1 read.count read.rows

pub returns-clause-text : goal.returns-clause-text
returns-clause-text c =
    let line = c.in-Some.ensures in
    let is = c.in-Some-read_epoch_line.ensures in
    let read = c.read_rows.ensures in
    record-read c.args.code_count c.in-Some-read_epoch_line.stamp.time c.in-Some-read_epoch_line.stamp.count c.read_rows.new.epoch c.args.text.now c.in-Some.line.now c.in-Some.after.now c.read_rows.result.now
    (read.time ∙ ap (λ (e : EpochTableView). e.time) c.restart.ensures) is.1 read.count read.rows line.1 is.2 read.text
