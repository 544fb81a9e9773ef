use Rattle.std.proofs.Common.{List, ℕ, ◌+◌, ◌/◌, ◌++◌, ap, ◌∙◌}
use Rattle.std.specs.Prelude.{codes}
use Rattle.rtk_chart.specs.TextPicture.{satellite_label}
use Rattle.rtk_chart.specs.SvgPicture.{name_start, name_drop, band_start, number_between}
use Rattle.rtk_chart.proofs.ListLemmas.{and-then}
use Rattle.rtk_chart.proofs.svg_bands.put_band_start.Goals as goal

pub returns : goal.returns
unfolding band_start
returns c =
    let l0 : List ℕ = c.args.text.now.items in
    let l1 : List ℕ = c.put_between.new.text.items in
    let l2 : List ℕ = c.put_label.new.text.items in
    let l3 : List ℕ = c.put_between-2.new.text.items in
    let l4 : List ℕ = c.put_between-3.new.text.items in
    let l5 : List ℕ = c.put_between-4.new.text.items in
    let l6 : List ℕ = c.put_label-2.new.text.items in
    let l7 : List ℕ = c.extend_from_slice.new.self.items in
    and-then l0 l6 l7 _ (codes "</text>\n")
    (and-then l0 l5 l6 _ (satellite_label c.args.letter c.args.number)
    (and-then l0 l4 l5 _ (number_between (name_start c.args.spacing) (c.args.height / 2 + name_drop c.args.spacing) (codes "'>"))
    (and-then l0 l3 l4 _ (number_between (codes " height='") c.args.height (codes "'/>\n"))
    (and-then l0 l2 l3 _ (number_between (codes "</title>\n<rect class='b") c.args.stripe (codes "' x='-110' width='1620'"))
    (and-then l0 l1 l2 (number_between (codes "<g transform='translate(110 ") c.args.top (codes ")'>\n<title>")) (satellite_label c.args.letter c.args.number)
    c.in_ok-put_between.ensures c.in_ok-put_label.ensures)
    c.in_ok-put_between-2.ensures)
    c.in_ok-put_between-3.ensures)
    (c.in_ok-put_between-4.ensures ∙ ap (λ (n : ℕ). l4 ++ number_between c.name_start.result.now n (codes "'>")) (ap (λ (d : ℕ). c.args.height / 2 + d) c.name_drop.ensures.value)
    ∙ ap (λ (t : List ℕ). l4 ++ number_between t (c.args.height / 2 + name_drop c.args.spacing) (codes "'>")) c.name_start.ensures))
    c.in_ok-put_label-2.ensures)
    c.in_ok-extend_from_slice.ensures.items
