use Rattle.std.proofs.Common.{List, ℕ}
use Rattle.std.specs.Prelude.{codes}
use Rattle.rtk_chart.specs.SvgPicture.{path_start}
use Rattle.rtk_chart.proofs.ListLemmas.{and-then}
use Rattle.rtk_chart.proofs.svg_layers.put_path_start.Goals as goal

pub returns : goal.returns
unfolding path_start
returns c =
    let l0 : List ℕ = c.args.text.now.items in
    let l1 : List ℕ = c.extend_from_slice.new.self.items in
    let l2 : List ℕ = c.extend_from_slice-2.new.self.items in
    let l3 : List ℕ = c.extend_from_slice-3.new.self.items in
    and-then l0 l2 l3 _ (codes "' d='") (and-then l0 l1 l2 (codes "<path class='") c.args.class.now c.in_ok-extend_from_slice.ensures.items c.in_ok-extend_from_slice-2.ensures.items)
    c.in_ok-extend_from_slice-3.ensures.items
