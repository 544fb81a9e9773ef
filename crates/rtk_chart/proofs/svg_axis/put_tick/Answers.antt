use Rattle.std.proofs.Common.{◌+◌, ◌++◌, List, ℕ, [], ap, sym, ◌∙◌}
use Rattle.std.specs.Prelude.{codes}
use Rattle.rtk_chart.specs.SvgPicture.{label_start, tick_text, number_between}
use Rattle.rtk_chart.specs.Ticks.{tick_label}
use Rattle.std.specs.Prelude.{Option}
use Rattle.rtk_chart.proofs.ListLemmas.{and-then}
use Rattle.rtk_chart.proofs.svg_axis.put_tick.Goals as goal

pub returns : goal.returns
returns c =
    let l0 : List ℕ = c.args.text.now.items in
    let l1 : List ℕ = c.put_between.new.text.items in
    let l2 : List ℕ = c.put_between-2.new.text.items in
    let l3 : List ℕ = c.put_between-3.new.text.items in
    let l4 : List ℕ = c.put_between-4.new.text.items in
    let l5 : List ℕ = c.put_tick_label.new.text.items in
    let l6 : List ℕ = c.extend_from_slice.new.self.items in
    and-then l0 l5 l6 _ (codes "</text>\n") (and-then l0 l4 l5 _ (tick_label c.args.step c.in-Some.moment) (and-then l0 l3 l4 _ (number_between [] (c.args.top + 22) (codes "'>")) (and-then l0 l2 l3 _ (number_between (label_start c.args.step c.in-Some.moment) c.args.x (codes "' y='")) (and-then l0 l1 l2 (number_between (codes "<path class='t' d='M") c.args.x (codes " 106V")) (number_between [] c.args.top (codes "'/>\n")) (c.in_ok-put_between.ensures) (c.in_ok-put_between-2.ensures)) (c.in_ok-put_between-3.ensures ∙ ap (λ (t : List ℕ). l2 ++ number_between t c.args.x (codes "' y='")) c.label_start.ensures)) (c.in_ok-put_between-4.ensures)) (c.in_ok-put_tick_label.ensures)) (c.in_ok-extend_from_slice.ensures.items) ∙ ap (λ (t : Option ℕ). l0 ++ tick_text c.args.top c.args.step c.args.x t) (sym c.in-Some.is)
