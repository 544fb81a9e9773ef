use Rattle.std.proofs.Common.{List, ℕ}
use Rattle.std.specs.Prelude.{codes}
use Rattle.rtk_chart.specs.SvgPicture.{svg_legend, number_between}
use Rattle.rtk_chart.specs.declared.svg_picture.TheConstants.{LEGEND}
use Rattle.rtk_chart.proofs.ListLemmas.{and-then}
use Rattle.rtk_chart.proofs.svg_picture.put_legend.Goals as goal

pub returns : goal.returns
unfolding svg_legend
returns c =
    let l0 : List ℕ = c.args.text.now.items in
    let l1 : List ℕ = c.put_between.new.text.items in
    let l2 : List ℕ = c.extend_from_slice.new.self.items in
    let l3 : List ℕ = c.extend_from_slice-2.new.self.items in
    and-then l0 l2 l3 _ (codes "</g>\n") (and-then l0 l1 l2 (number_between (codes "<g transform='translate(110 ") c.args.top (codes ")'>\n")) (LEGEND.now) (c.in_ok-put_between.ensures) (c.in_ok-extend_from_slice.ensures.items)) (c.in_ok-extend_from_slice-2.ensures.items)
