use Rattle.std.proofs.Common.{◌∙◌, ◌<◌, length, sym, arith}
use Rattle.std.proofs.lemmas.Grind.{not_there}
use Rattle.rtk_rinex.proofs.EpochLemmas.{length-line, line-columns}
use Rattle.rtk_rinex.specs.Record.{satellite_line}
use Rattle.rtk_rinex.proofs.LineLemmas.{satellite_line-row, no_line, same_line}
use Rattle.rtk_rinex.proofs.OneLemmas.{count-of, epoch-front, epoch_line-of}
use Rattle.rtk_rinex.proofs.RecordsLemmas.{epoch_line-due, below}
use Rattle.rtk_rinex.proofs.records.skip_record.Goals as goal

pub unreachable-requires : goal.unreachable-requires
unreachable-requires c =
    not_there c.requires (λ has.
    let due = epoch_line-due has.0 c.args.text.now has.1 in
    no_line c.args.text.now _ _ c.in_default.ensures due.line due.text)

pub split_at-requires : goal.split_at-requires
split_at-requires c =
    let line = c.in-Some.ensures in
    let long : 34 < length c.in-Some.line.now =
    below 34 (length c.in-Some.line.now) c.requires (λ has.
    let due = epoch_line-due has.0 c.args.text.now has.1 in
    let same = same_line c.in-Some.line.now _ c.in-Some.after.now _ line.0 due.line (sym line.1 ∙ due.text) in
    omega (arith, length-line c.in-Some.line.now due.epoch.time (length due.epoch.rows) due.is_epoch.time (omega (arith, due.count)) same.0)) in
    omega (arith, long)

pub unreachable-requires-in_default-stamp_in : goal.unreachable-requires-in_default-stamp_in
unreachable-requires-in_default-stamp_in c =
    not_there c.requires (λ has.
    let due = epoch_line-due has.0 c.args.text.now has.1 in
    let line = c.in-Some.ensures in
    let same = same_line c.in-Some.line.now _ c.in-Some.after.now _ line.0 due.line (sym line.1 ∙ due.text) in
    c.in_default-stamp_in.ensures due.epoch.time _ due.is_epoch.time due.count
    (c.split_at.ensures.front ∙ line-columns c.in-Some.line.now due.epoch.time _ due.is_epoch.time (omega (arith, due.count)) same.0))

pub returns : goal.returns
returns c = λ n e rest is ends text.
    let line = c.in-Some.ensures in
    let count = count-of n e is in
    let same = same_line c.in-Some.line.now _ c.in-Some.after.now _ line.0 (epoch_line-of n e is) (sym line.1 ∙ text ∙ epoch-front n e rest is) in
    let one = c.in-Some-stamp_in.ensures.3 e.time _ is.time count (c.split_at.ensures.front ∙ line-columns c.in-Some.line.now e.time _ is.time (omega (arith, count)) same.0) in
    (one.0, c.skip_rows.ensures.rest satellite_line e.rows rest satellite_line-row ends same.1)
