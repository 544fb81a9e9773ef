use Rattle.std.proofs.Common.{List, ℕ, ◌++◌, ap, ◌∙◌}
use Rattle.std.specs.Prelude.{codes, decimal}
use Rattle.rtk_chart.specs.SvgStrip.{lane_start}
use Rattle.rtk_chart.proofs.ListLemmas.{and-then}
use Rattle.rtk_chart.proofs.svg_strip.put_lane_start.Goals as goal

pub returns : goal.returns
unfolding lane_start
returns c =
    let l0 : List ℕ = c.args.text.now.items in
    let l1 : List ℕ = c.put_between.new.text.items in
    let l2 : List ℕ = c.put_between-2.new.text.items in
    let l3 : List ℕ = c.put_between-3.new.text.items in
    let l4 : List ℕ = c.put_between-4.new.text.items in
    let l5 : List ℕ = c.put_between-5.new.text.items in
    let number : List ℕ = decimal c.args.number in
    let until : ℕ → List ℕ = λ n. decimal n ++ codes "</text>\n<text class='side' x='1446' y='40'>" in
    let from : ℕ → List ℕ = λ n. decimal n ++ codes "</text>\n<path class='k' d='" in
    and-then l0 l4 l5 _ (from c.args.reach.from)
    (and-then l0 l3 l4 _ (until c.args.reach.until)
    (and-then l0 l2 l3 _ (number ++ codes "</text>\n<text class='side' x='1446' y='16'>")
    (and-then l0 l1 l2 _ (number ++ codes " in dB-Hz</title>\n<text class='code' x='-6' y='18'>strength</text>\n<text class='code' x='-6' y='38'>of band ")
    c.in_ok-put_between.ensures
    c.in_ok-put_between-2.ensures)
    c.in_ok-put_between-3.ensures)
    (c.in_ok-put_between-4.ensures ∙ ap (λ (n : ℕ). l3 ++ until n) c.from.ensures))
    (c.in_ok-put_between-5.ensures ∙ ap (λ (n : ℕ). l4 ++ from n) c.from-2.ensures)
