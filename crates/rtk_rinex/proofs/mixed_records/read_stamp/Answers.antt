use Rattle.std.proofs.Common.{◌∙◌, ◌<◌, length, arith}
use Rattle.std.proofs.lemmas.Grind.{not_there}
use Rattle.rtk_rinex.proofs.RecordsLemmas.{below}
use Rattle.rtk_rinex.proofs.MixedRecordsLemmas.{line-read, line-there}
use Rattle.rtk_rinex.proofs.mixed_records.read_stamp.Goals as goal

pub unreachable-requires : goal.unreachable-requires
unreachable-requires c = not_there c.requires (λ has. line-there c.args.form.now c.args.text.now has c.in_default.ensures)

pub split_at-requires : goal.split_at-requires
split_at-requires c =
    let line = c.in-Some.ensures in
    let long : 35 < length c.in-Some.line.now =
    below 35 (length c.in-Some.line.now) c.requires (λ has.
    omega (arith, (line-read c.args.form.now has.0 c.args.text.now has.1 c.in-Some.line.now c.in-Some.after.now has.2 has.3 line.0 line.1).long)) in
    omega (arith, long)

pub unreachable-requires-in_default-stamp_in : goal.unreachable-requires-in_default-stamp_in
unreachable-requires-in_default-stamp_in c =
    not_there c.requires (λ has.
    let line = c.in-Some.ensures in
    let read = line-read c.args.form.now has.0 c.args.text.now has.1 c.in-Some.line.now c.in-Some.after.now has.2 has.3 line.0 line.1 in
    c.in_default-stamp_in.ensures has.0.time (length has.0.rows) has.2.time (rw c.most_satellites.ensures.value read.count) (c.split_at.ensures.front ∙ read.columns))

pub returns-clause-stamp : goal.returns-clause-stamp
returns-clause-stamp c = λ e rest is text.
    let line = c.in-Some.ensures in
    let read = line-read c.args.form.now e c.args.text.now rest c.in-Some.line.now c.in-Some.after.now is text line.0 line.1 in
    let one = c.in-Some-stamp_in.ensures.3 e.time (length e.rows) is.time (rw c.most_satellites.ensures.value read.count) (c.split_at.ensures.front ∙ read.columns) in
    (one.0, one.1, read.lines)
