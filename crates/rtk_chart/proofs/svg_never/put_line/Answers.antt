use Rattle.std.proofs.Common.{List, ℕ, ◌+◌, ◌*◌, ◌++◌, ap, ◌∙◌}
use Rattle.std.specs.Prelude.{codes, flat_map}
use Rattle.std.specs.List.{range_with_len}
use Rattle.rtk_chart.specs.SvgPicture.{number_between, lacked_before, never_name, never_title, never_text}
use Rattle.rtk_chart.proofs.ListLemmas.{and-then}
use Rattle.rtk_chart.proofs.svg_never.put_line.Goals as goal

pub returns : goal.returns
unfolding never_text
returns c =
    let l0 : List ℕ = c.args.text.now.items in
    let l1 : List ℕ = c.put_between.new.text.items in
    let l2 : List ℕ = c.put_title.new.text.items in
    let l3 : List ℕ = c.extend_from_slice.new.self.items in
    let l4 : List ℕ = c.put_names.new.text.items in
    let l5 : List ℕ = c.extend_from_slice-2.new.self.items in
    let y : ℕ = c.args.top + 24 * lacked_before c.args.bins.now c.args.at in
    and-then l0 l4 l5 _ (codes "</text>\n")
    (and-then l0 l3 l4 _ (flat_map (never_name c.args.names c.args.bins.now c.args.at) (range_with_len 0 32))
    (and-then l0 l2 l3 _ (codes ":")
    (and-then l0 l1 l2 (number_between (codes "<text class='never' x='110' y='") y (codes "'>never ")) (never_title c.args.names c.args.code)
    (c.in_ok-put_between.ensures ∙ ap (λ (n : ℕ). l0 ++ number_between (codes "<text class='never' x='110' y='") (c.args.top + 24 * n) (codes "'>never ")) c.lacked_before.ensures.value)
    c.in_ok-put_title.ensures)
    c.in_ok-extend_from_slice.ensures.items)
    c.in_ok-put_names.ensures)
    c.in_ok-extend_from_slice-2.ensures.items
