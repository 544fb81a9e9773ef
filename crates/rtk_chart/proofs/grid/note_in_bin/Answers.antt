use Rattle.std.proofs.Common.{◌<◌, ◌≤◌, length, ap, ◌∙◌, arith}
use Rattle.rtk_chart.specs.Scale.{bin_at}
use Rattle.rtk_chart.specs.Grid.{no_bin}
use Rattle.rtk_chart.proofs.GridLemmas.{bin-more, bin-beyond, bin-there, bins-size}
use Rattle.rtk_chart.proofs.grid.note_in_bin.Goals as goal

pub returns-then-place-len-clause-noted : goal.returns-then-place-len-clause-noted
returns-then-place-len-clause-noted c = λ e es at calls are.
    let s = c.args.scale.now in
    let place = c.bin_at-place.result in
    let items = c.args.bins.now.items in
    let size = bins-size s es items are in
    let known = c.args.bins.now.ok.0 in
    let len = c.len.ensures in
    let test = c.if-place-len.true in
    let within : place < s.bins = omega (arith, size, known, len, test) in
    bin-more s e es items place c.args.called.now _ c.add.new.self no_bin (c.bin_at-place.ensures ∙ ap (bin_at s) at) within are calls
    (c.index_mut.ensures.value ∙ bin-there s es items place _ within are) c.add.ensures

pub returns-else-place-len-clause-noted : goal.returns-else-place-len-clause-noted
returns-else-place-len-clause-noted c = λ e es at calls are.
    let known = c.args.bins.now.ok.0 in
    let len = c.len.ensures in
    let test = c.if-place-len.false in
    let beyond : length c.args.bins.now.items ≤ c.bin_at-place.result = omega (arith, known, len, test) in
    bin-beyond c.args.scale.now e es c.args.bins.now.items c.bin_at-place.result (c.bin_at-place.ensures ∙ ap (bin_at c.args.scale.now) at) beyond are
