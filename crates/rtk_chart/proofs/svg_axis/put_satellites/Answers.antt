use Rattle.std.proofs.Common.{List, ℕ, ◌++◌, ap, ◌∙◌}
use Rattle.std.specs.Prelude.{codes}
use Rattle.rtk_chart.specs.SvgPath.{most_tracked, steps_text}
use Rattle.rtk_chart.specs.SvgPicture.{satellites_band, number_between}
use Rattle.rtk_chart.proofs.ListLemmas.{and-then}
use Rattle.rtk_chart.proofs.svg_axis.put_satellites.Goals as goal

pub returns : goal.returns
unfolding satellites_band
returns c =
    let l0 : List ℕ = c.args.text.now.items in
    let l1 : List ℕ = c.put_between.new.text.items in
    let l2 : List ℕ = c.put_between-2.new.text.items in
    let l3 : List ℕ = c.put_steps.new.text.items in
    let l4 : List ℕ = c.extend_from_slice.new.self.items in
    let greatest : ℕ → List ℕ = λ most. number_between (codes "<text class='code' x='-6' y='38'>at most ") most (codes "</text>\n<path class='n' d='M0 40") in
    and-then l0 l3 l4 _ (codes "H1440V40z'/>\n</g>\n")
    (and-then l0 l2 l3 _ (steps_text c.args.counts.now)
    (and-then l0 l1 l2
    (number_between (codes "<g transform='translate(110 ") c.args.top (codes ")'>\n<title>satellites with a phase</title>\n<text class='code' x='-6' y='18'>satellites</text>\n"))
    (greatest (most_tracked c.args.counts.now))
    c.in_ok-put_between.ensures
    (c.in_ok-put_between-2.ensures ∙ ap (λ (most : ℕ). l1 ++ greatest most) c.most_tracked-most.ensures))
    c.in_ok-put_steps.ensures)
    c.in_ok-extend_from_slice.ensures.items
