use Rattle.std.proofs.Common.{List, ℕ, ◌+◌, ◌++◌, ap, ◌∙◌}
use Rattle.std.specs.Prelude.{codes}
use Rattle.rtk_chart.specs.TextPicture.{satellite_label}
use Rattle.rtk_chart.specs.SvgPicture.{number_between, codes_before, line_top, line_start, code_start, drawn_bar, code_line}
use Rattle.rtk_chart.proofs.ListLemmas.{and-then}
use Rattle.rtk_chart.proofs.svg_codes.put_code_line.Goals as goal

pub returns : goal.returns
unfolding code_line
returns c =
    let l0 : List ℕ = c.args.text.now.items in
    let l1 : List ℕ = c.put_between.new.text.items in
    let l2 : List ℕ = c.put_label.new.text.items in
    let l3 : List ℕ = c.extend_from_slice.new.self.items in
    let l4 : List ℕ = c.extend_from_slice-2.new.self.items in
    let l5 : List ℕ = c.put_drawn_bar.new.text.items in
    let l6 : List ℕ = c.extend_from_slice-3.new.self.items in
    let l7 : List ℕ = c.extend_from_slice-4.new.self.items in
    let l8 : List ℕ = c.extend_from_slice-5.new.self.items in
    let place : List ℕ = codes "<g transform='translate(0 " in
    let top : ℕ = line_top c.args.spacing (codes_before c.args.bins.now c.args.place c.args.at) in
    let name : List ℕ = c.args.code in
    and-then l0 l7 l8 _ (codes "</text>\n</g>\n")
    (and-then l0 l6 l7 _ name
    (and-then l0 l5 l6 _ (code_start c.args.spacing)
    (and-then l0 l4 l5 _ (drawn_bar c.args.bins.now c.args.place c.args.at)
    (and-then l0 l3 l4 _ name
    (and-then l0 l2 l3 _ (codes " ")
    (and-then l0 l1 l2 (number_between place top (line_start c.args.spacing)) (satellite_label c.args.names.letter (c.args.names.before + c.args.place + 1))
    (c.in_ok-put_between.ensures
    ∙ ap (λ (n : ℕ). l0 ++ number_between place n c.line_start.result.now) (c.line_top-top.ensures ∙ ap (λ (n : ℕ). line_top c.args.spacing n) c.codes_before.ensures.value)
    ∙ ap (λ (t : List ℕ). l0 ++ number_between place top t) c.line_start.ensures)
    c.in_ok-put_label.ensures)
    c.in_ok-extend_from_slice.ensures.items)
    c.in_ok-extend_from_slice-2.ensures.items)
    c.in_ok-put_drawn_bar.ensures)
    (c.in_ok-extend_from_slice-3.ensures.items ∙ ap (λ (t : List ℕ). l5 ++ t) c.code_start.ensures))
    c.in_ok-extend_from_slice-4.ensures.items)
    c.in_ok-extend_from_slice-5.ensures.items
