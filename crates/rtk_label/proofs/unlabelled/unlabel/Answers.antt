use Rattle.std.proofs.Common.{◌+◌, ◌-◌, ◌∙◌, length, drop, arith, sym, ap}
use Rattle.std.proofs.lemmas.List.{drop_all, length-drop, length-take-le}
use Rattle.rtk_label.proofs.PieceLemmas.{drop-over, drop-after}
use Rattle.rtk_label.proofs.PartedLemmas.{front-fits, parted, parted_cut}
use Rattle.rtk_label.proofs.unlabelled.unlabel.Goals as goal

pub returns-then-text-lt810-clause-from : goal.returns-then-text-lt810-clause-from
returns-then-text-lt810-clause-from c = omega (arith, c.unlabel_cut.ensures.from, ap length c.unlabel_cut.ensures.none)

pub returns-then-text-lt810-clause-parted : goal.returns-then-text-lt810-clause-parted
returns-then-text-lt810-clause-parted c =
    parted_cut c.args.text.now _ c.unlabel_cut.result.label c.unlabel_cut.result.times c.unlabel_cut.result.lines.items c.if-text-lt810.true
    (omega (arith, length-drop c.unlabel_cut.result.from c.unlabel_cut.new.text, c.unlabel_cut.ensures.len)) c.unlabel_cut.ensures.good c.unlabel_cut.ensures.cut

pub returns-then-text-lt810-clause-rest : goal.returns-then-text-lt810-clause-rest
returns-then-text-lt810-clause-rest c =
    drop_all 972 c.unlabel_cut.new.text (omega (arith, c.unlabel_cut.ensures.len, c.if-text-lt810.true)) ∙ sym (drop_all 972 c.args.text.now (omega (arith, c.if-text-lt810.true)))

pub returns-clause-parted : goal.returns-clause-parted
returns-clause-parted c =
    let number_len = c.line_len-number_len.result in
    let lines = c.told_lines-told.result.lines.items in
    let from = number_len + length lines in
    parted c.args.text.now _ c.reading_of-reading.result.front.items _ number_len c.reading_of-reading.result.label c.told_lines-told.result.times lines
    (record {
      read = c.reading_of-reading.ensures.read;
      front_is = c.reading_of-reading.ensures.front;
      told = c.told_lines-told.ensures.told;
    })
    (rw (c.copy_from_slice.ensures.after, c.as_slice-2.ensures.value, c.len.ensures.value)
    (drop-over from (from + 729 - from) 729 c.args.text.now c.reading_of-reading.result.front.items (omega arith) (omega arith)))

pub returns-clause-rest : goal.returns-clause-rest
returns-clause-rest c =
    let from = c.line_len-number_len.result + length c.told_lines-told.result.lines.items in
    rw (c.copy_from_slice.ensures.after, c.as_slice-2.ensures.value, c.len.ensures.value)
    (drop-after from (from + 729 - from) 729 972 c.args.text.now c.reading_of-reading.result.front.items (omega arith) (omega arith) c.reading_of-reading.ensures.len (omega arith))

pub slice_bounds-copy_from_slice-end : goal.slice_bounds-copy_from_slice-end
slice_bounds-copy_from_slice-end c =
    let fits = front-fits c.line_len-number_len.result c.len.result (length c.args.text.now) c.told_lines-told.result.lines.items c.reading_of-reading.ensures.line c.if-text-lt810.false
    c.told_lines-told.ensures.within c.len.ensures.value in
    omega (arith, fits)

pub copy_from_slice-requires : goal.copy_from_slice-requires
copy_from_slice-requires c =
    let from = c.line_len-number_len.result + c.len.result in
    let text = c.args.text.now in
    let fits = front-fits c.line_len-number_len.result c.len.result (length text) c.told_lines-told.result.lines.items c.reading_of-reading.ensures.line c.if-text-lt810.false
    c.told_lines-told.ensures.within c.len.ensures.value in
    length-take-le (from + 729 - from) (drop from text) (omega (arith, fits, length-drop from text))
    ∙ omega (arith, c.reading_of-reading.ensures.len, ap length c.as_slice-2.ensures.value)
