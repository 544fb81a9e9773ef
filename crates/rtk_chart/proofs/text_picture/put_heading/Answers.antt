use Rattle.std.proofs.Common.{List, ℕ, [], ◌∷◌}
use Rattle.std.specs.Prelude.{codes}
use Rattle.rtk_chart.specs.TextPicture.{text_heading, moment_line}
use Rattle.rtk_chart.proofs.ListLemmas.{and-then}
use Rattle.rtk_chart.proofs.text_picture.put_heading.Goals as goal

pub returns : goal.returns
unfolding text_heading
returns c =
    let l0 : List ℕ = c.args.text.now.items in
    let l1 : List ℕ = c.extend_from_slice.new.self.items in
    let l2 : List ℕ = c.extend_from_slice-2.new.self.items in
    let l3 : List ℕ = c.push.new.self.items in
    let l4 : List ℕ = c.put_moment_line.new.text.items in
    let l5 : List ℕ = c.put_moment_line-2.new.text.items in
    and-then l0 l4 l5 _ (moment_line (codes "until ") c.args.scale.now.last)
    (and-then l0 l3 l4 _ (moment_line (codes "from ") c.args.scale.now.first)
    (and-then l0 l2 l3 _ (10 ∷ [])
    (and-then l0 l1 l2 (codes "marker ") c.args.marker.now c.in_ok-extend_from_slice.ensures.items c.in_ok-extend_from_slice-2.ensures.items)
    c.in_ok-push.ensures.items)
    c.in_ok-put_moment_line.ensures)
    c.in_ok-put_moment_line-2.ensures
