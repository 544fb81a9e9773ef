use Rattle.std.proofs.Common.{◌<◌, ◌≤◌, length, ap, ◌∙◌, arith}
use Rattle.rtk_chart.specs.Scale.{bin_at}
use Rattle.rtk_chart.proofs.GridLemmas.{record-more, record-beyond}
use Rattle.rtk_chart.proofs.grid.note_record.Goals as goal

pub returns-then-place-len : goal.returns-then-place-len
returns-then-place-len c = λ e es at are.
    let items = c.args.recorded.now.items in
    let inside : c.bin_at-place.result < length items = omega (arith, c.args.recorded.now.ok.0, c.len.ensures, c.if-place-len.true) in
    record-more c.args.scale.now e es items c.bin_at-place.result (c.bin_at-place.ensures ∙ ap (bin_at c.args.scale.now) at) inside are

pub returns-else-place-len : goal.returns-else-place-len
returns-else-place-len c = λ e es at are.
    let items = c.args.recorded.now.items in
    let beyond : length items ≤ c.bin_at-place.result = omega (arith, c.args.recorded.now.ok.0, c.len.ensures, c.if-place-len.false) in
    record-beyond c.args.scale.now e es items c.bin_at-place.result (c.bin_at-place.ensures ∙ ap (bin_at c.args.scale.now) at) beyond are
