use Rattle.std.proofs.Common.{List, ℕ, []}
use Rattle.std.specs.Prelude.{codes}
use Rattle.rtk_chart.specs.SvgPicture.{column_numbers, number_between}
use Rattle.rtk_chart.proofs.ListLemmas.{and-then}
use Rattle.rtk_chart.proofs.svg_codes.put_column_numbers.Goals as goal

pub returns : goal.returns
unfolding column_numbers
returns c =
    let l0 : List ℕ = c.args.text.now.items in
    let l1 : List ℕ = c.put_between.new.text.items in
    let l2 : List ℕ = c.put_between-2.new.text.items in
    let l3 : List ℕ = c.put_between-3.new.text.items in
    let l4 : List ℕ = c.put_between-4.new.text.items in
    let l5 : List ℕ = c.put_between-5.new.text.items in
    let l6 : List ℕ = c.put_between-6.new.text.items in
    and-then l0 l5 l6 _ (number_between [] c.args.halves (codes "</title>\n"))
    (and-then l0 l4 l5 _ (number_between [] c.args.rises (codes ", half cycles "))
    (and-then l0 l3 l4 _ (number_between [] c.args.returns (codes ", rises "))
    (and-then l0 l2 l3 _ (number_between [] c.args.slips (codes ", returns "))
    (and-then l0 l1 l2 (number_between (codes ": columns with phase ") c.args.phases (codes ", missing ")) (number_between [] c.args.missing (codes ", slips "))
    c.in_ok-put_between.ensures c.in_ok-put_between-2.ensures)
    c.in_ok-put_between-3.ensures)
    c.in_ok-put_between-4.ensures)
    c.in_ok-put_between-5.ensures)
    c.in_ok-put_between-6.ensures
