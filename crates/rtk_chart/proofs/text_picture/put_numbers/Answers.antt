use Rattle.std.proofs.Common.{List, ℕ}
use Rattle.std.specs.Prelude.{codes}
use Rattle.rtk_chart.specs.Heading.{interval_lines}
use Rattle.rtk_chart.specs.TextPicture.{number_lines, named_count_line}
use Rattle.rtk_chart.proofs.ListLemmas.{and-then}
use Rattle.rtk_chart.proofs.text_picture.put_numbers.Goals as goal

pub returns : goal.returns
unfolding number_lines
returns c =
    let l0 : List ℕ = c.args.text.now.items in
    let l1 : List ℕ = c.put_interval.new.text.items in
    let l2 : List ℕ = c.put_line.new.text.items in
    let l3 : List ℕ = c.put_line-2.new.text.items in
    let l4 : List ℕ = c.put_line-3.new.text.items in
    let l5 : List ℕ = c.put_line-4.new.text.items in
    let l6 : List ℕ = c.put_line-5.new.text.items in
    let l7 : List ℕ = c.put_line-6.new.text.items in
    and-then l0 l6 l7 _ (named_count_line (codes "missing ") c.args.missing)
    (and-then l0 l5 l6 _ (named_count_line (codes "rises ") c.args.rises)
    (and-then l0 l4 l5 _ (named_count_line (codes "returns ") c.args.returns)
    (and-then l0 l3 l4 _ (named_count_line (codes "slips ") c.args.slips)
    (and-then l0 l2 l3 _ (named_count_line (codes "satellites ") c.args.satellites)
    (and-then l0 l1 l2 (interval_lines c.args.scale.now.interval c.args.scale.now.bin_ms) (named_count_line (codes "records ") c.args.records)
    c.in_ok-put_interval.ensures c.in_ok-put_line.ensures)
    c.in_ok-put_line-2.ensures)
    c.in_ok-put_line-3.ensures)
    c.in_ok-put_line-4.ensures)
    c.in_ok-put_line-5.ensures)
    c.in_ok-put_line-6.ensures
